use Rattle.directory_store.proofs.AllBytes.{found_of_all, abbreviation_of_all}
use Rattle.directory_store.proofs.Wholes.{found_members}
use Rattle.directory_store.proofs.laws.opened.Goals as goal

pub returns-clause-found : goal.returns-clause-found
returns-clause-found c = λ at purpose which directories objects view prefix ids has right are listed long found.
    found_of_all at purpose which directories objects view has right are prefix found.read _ listed long found.ids_read found.index

pub returns-clause-members : goal.returns-clause-members
returns-clause-members c = λ at purpose which directories view prefix ids has right long found digits.
    found_members at purpose which directories view prefix found.read _ has right long found.ids_read found.index digits

pub returns-clause-abbreviated : goal.returns-clause-abbreviated
returns-clause-abbreviated c = λ at purpose which directories objects view read least id name has right are listed of_id two is.
    abbreviation_of_all at purpose which directories objects view has right are read least id name listed of_id two is
