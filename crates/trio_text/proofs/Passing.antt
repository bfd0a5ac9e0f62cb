-- The text of a `repeat`, whose passes are over parts of the input or not.
use Rattle.std.proofs.Common.{◌≡◌, ℕ, Bool, true, false, List, sym, subst}
use Rattle.job_tree.specs.Tree.{repeat, Steps}
use Rattle.trio_text.specs.Uses.{Known}
use Rattle.trio_text.specs.Lines.{deeper}
use Rattle.trio_text.specs.Statements.{with_repeat, with_each_part, with_each_cut}
use Rattle.trio_text.specs.Blocks.{OrPass, Inside, Writes, WritesStep}

-- the block of steps, at a level and in the body of a nursery
abbrev pub Block : Known → Steps → ℕ → List ℕ → List ℕ → List ℕ → Type 0
Block known body level around = Inside (OrPass body (Writes known around body)) level

-- the same block, where the level and the nursery are said in another way
pub moved : (known : Known) (body : Steps) (level deep : ℕ) (around near a b : List ℕ) → deep ≡ level → near ≡ around →
    Block known body deep near a b → Block known body level around a b
moved known body level deep around near a b same_level same_around is =
    let P : ℕ → Type 0 = λ n. Block known body n near a b in
    let Q : List ℕ → Type 0 = λ x. Block known body level x a b in
    subst Q same_around (subst P same_level is)

pub loop_written : (known : Known) (around near : List ℕ) (count : ℕ) (over : Bool) (body : Steps) (level deep : ℕ) (a b d : List ℕ) →
    over ≡ false → b ≡ with_repeat level count a → deep ≡ deeper level → near ≡ around → Block known body deep near b d →
    WritesStep known around (repeat count over body) level a d
loop_written known around near count false body level deep a b d is first same_level same_around inner =
    record { middle = b; starts = first; ends = moved known body (deeper level) deep around near b d same_level same_around inner }
loop_written known around near count true body level deep a b d is first same_level same_around inner = let f : false ≡ true = sym is in cc

pub calls_written : (known : Known) (around near : List ℕ) (count : ℕ) (over : Bool) (body : Steps) (level deep : ℕ) (a b d e : List ℕ) →
    over ≡ true → b ≡ with_each_part level a → deep ≡ deeper level → near ≡ around → Block known body deep near b d →
    e ≡ with_each_cut level count d → WritesStep known around (repeat count over body) level a e
calls_written known around near count true body level deep a b d e is first same_level same_around inner last =
    record {
      middle = b;
      starts = first;
      ends = record { middle = d; starts = moved known body (deeper level) deep around near b d same_level same_around inner; ends = last };
    }
calls_written known around near count false body level deep a b d e is first same_level same_around inner last = let f : false ≡ true = is in cc
