-- What clauses state about a writer into memory.
use Rattle.std.specs.Prelude.{ℕ, ◌-◌, Bool, false, Option, Some, None, List, ◌==◌, if◌then◌else◌}
use Rattle.job_report.specs.declared.mem_out.MemOut.{MemOut}

abbrev pub bytes_of : MemOut → List ℕ
bytes_of out = out.bytes.items

abbrev pub room_of : MemOut → ℕ
room_of out = out.room

abbrev pub piece_of : MemOut → ℕ
piece_of out = out.piece

-- the number of puts before the one that must fail
abbrev pub puts_before_fault : MemOut → Option ℕ
puts_before_fault out = out.puts_left

abbrev pub faults_of : MemOut → ℕ
faults_of out = out.failed

abbrev pub is_due : Option ℕ → Bool
is_due None = false
is_due (Some n) = n == 0

abbrev pub puts_after : Option ℕ → Option ℕ
puts_after None = None
puts_after (Some n) = if n == 0 then None else Some (n - 1)
