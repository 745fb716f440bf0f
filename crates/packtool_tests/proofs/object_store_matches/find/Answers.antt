use Rattle.packtool_tests.proofs.object_store_matches.find.Goals as goal

pub lookup_prefix-requires-clause-listed : goal.lookup_prefix-requires-clause-listed
lookup_prefix-requires-clause-listed g c = λ only is. c.requires _ only is
