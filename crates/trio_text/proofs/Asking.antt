-- The text of a step that asks a limiter or channel for something, and of its block.
use Rattle.std.proofs.Common.{◌≡◌, ℕ, List, sym, subst}
use Rattle.job_tree.specs.declared.object.Ask.{Ask}
use Rattle.job_tree.specs.declared.object.Ask.TheVariants.{Acquire, Send, Receive}
use Rattle.job_tree.specs.Tree.{ask_for, Steps}
use Rattle.trio_text.specs.Uses.{Known}
use Rattle.trio_text.specs.Lines.{deeper}
use Rattle.trio_text.specs.Statements.{with_acquire, with_send, with_received, with_receive}
use Rattle.trio_text.specs.Blocks.{Writes, WritesStep}
use Rattle.trio_text.proofs.Passing.{Block, moved}

pub acquire_written : (known : Known) (around near name : List ℕ) (ask : Ask) (body : Steps) (level deep : ℕ) (a b d : List ℕ) →
    ask ≡ Acquire → b ≡ with_acquire level name a → deep ≡ deeper level → near ≡ around → Block known body deep near b d →
    WritesStep known around (ask_for name ask body) level a d
acquire_written known around near name ask body level deep a b d is first same_level same_around inner =
    subst (λ (x : Ask). WritesStep known around (ask_for name x body) level a d) (sym is)
    (record { middle = b; starts = first; ends = moved known body (deeper level) deep around near b d same_level same_around inner })

pub send_written : (known : Known) (around name : List ℕ) (ask : Ask) (steps body : Steps) (level : ℕ) (a b d : List ℕ) →
    ask ≡ Send → b ≡ with_send level name a → steps ≡ body → Writes known around steps level b d →
    WritesStep known around (ask_for name ask body) level a d
send_written known around name ask steps body level a b d is first same inner =
    subst (λ (x : Ask). WritesStep known around (ask_for name x body) level a d) (sym is)
    (record { middle = b; starts = first; ends = subst (λ (ss : Steps). Writes known around ss level b d) same inner })

pub receive_written : (known : Known) (around near name : List ℕ) (ask : Ask) (body : Steps) (level deep : ℕ) (a b d e : List ℕ) →
    ask ≡ Receive → b ≡ with_received level a → deep ≡ deeper level → near ≡ around → Block known body deep near b d →
    e ≡ with_receive level name d → WritesStep known around (ask_for name ask body) level a e
receive_written known around near name ask body level deep a b d e is first same_level same_around inner last =
    subst (λ (x : Ask). WritesStep known around (ask_for name x body) level a e) (sym is)
    (record {
      middle = b;
      starts = first;
      ends = record { middle = d; starts = moved known body (deeper level) deep around near b d same_level same_around inner; ends = last };
    })
