use Rattle.std.proofs.Common.{◌≡◌, ◌++◌, ℕ, List, codes, append_assoc}
use Rattle.trio_text.specs.Uses.{known_in}
use Rattle.trio_text.specs.Statements.{class_of}
use Rattle.trio_text.specs.Program.{class_lines}
use Rattle.trio_text.proofs.helpers.push_class_lines.Goals as goal

three_parts : (old a b d : List ℕ) → ((old ++ a) ++ b) ++ d ≡ old ++ ((a ++ b) ++ d)
three_parts old a b d = simp append_assoc

pub returns : goal.returns
unfolding class_lines
returns c =
    rw (c.in_ok-extend_from_slice-2.ensures.items, c.in_ok-push_class.ensures, c.in_ok-extend_from_slice.ensures.items)
    (three_parts c.args.out.now.items (codes "\n\nclass ") (class_of (known_in c.args.words.now) c.args.name) (codes "(Exception):\n    pass\n"))
