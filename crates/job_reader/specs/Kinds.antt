-- The kinds of refusal, their numbers and names.
use Rattle.std.specs.Prelude.{ℕ, List, codes}
use Rattle.job_reader.specs.declared.fault.JobKind.{JobKind}
use Rattle.job_reader.specs.declared.fault.JobKind.TheVariants.{TooLong, NotAscii, Version, Token, Number, Syntax, Depth, Twice, NotEnclosing, Reserved, TooLarge, NoMemory}
use Rattle.job_reader.specs.declared.fault.JobFault.{JobFault}

-- the number of a kind: the order in which the checks look for it
abbrev pub number_of : JobKind → ℕ
number_of TooLong = 1
number_of NotAscii = 2
number_of Version = 3
number_of Token = 4
number_of Number = 5
number_of Syntax = 6
number_of Depth = 7
number_of Twice = 8
number_of NotEnclosing = 9
number_of Reserved = 10
number_of TooLarge = 11
number_of NoMemory = 12

abbrev pub name_of : JobKind → List ℕ
name_of TooLong = codes "TooLong"
name_of NotAscii = codes "NotAscii"
name_of Version = codes "Version"
name_of Token = codes "Token"
name_of Number = codes "Number"
name_of Syntax = codes "Syntax"
name_of Depth = codes "Depth"
name_of Twice = codes "Twice"
name_of NotEnclosing = codes "NotEnclosing"
name_of Reserved = codes "Reserved"
name_of TooLarge = codes "TooLarge"
name_of NoMemory = codes "NoMemory"

-- the answer if memory runs out
abbrev pub no_memory : JobFault
no_memory = record { at = 0; kind = NoMemory }
