-- What the words of a command line ask for, what each command does, and the status of the program.
pub mod CommandLines
pub mod Commands
