-- The names of a job's tasks, and of what its steps open, in its Python program.
use Rattle.std.specs.Prelude.{ℕ, Bool, not, ◌&&◌, List, ◌++◌, codes, nat_eq, if◌then◌else◌}
use Rattle.std.specs.List.{list_any, ends_with}
use Rattle.std.specs.Str.{bytes_eq}
use Rattle.trio_text.specs.declared.taken.TheConstants.{TAKEN}

-- whether the program uses a word for something else
unfoldable pub is_taken : List ℕ → Bool
is_taken word = list_any (λ other. bytes_eq other.now word) TAKEN.now

-- whether a word can be used in the program unchanged: it does not end with `_`, and is not taken
unfoldable pub is_free : List ℕ → Bool
is_free word = not (ends_with nat_eq word (codes "_")) && not (is_taken word)

-- a name in the program: itself, or followed by `_`
unfoldable pub name_text : List ℕ → List ℕ
name_text name = if is_free name then name else name ++ codes "_"

-- the class of an exception: its name, with `_` before it if it is not free, or if a task has it, or what a step opens
unfoldable pub class_text : Bool → List ℕ → List ℕ
class_text is_given name = if is_free name && not is_given then name else codes "_" ++ name
