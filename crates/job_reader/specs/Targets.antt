-- What steps use by a name: scopes and nurseries, events, limiters and channels.
use Rattle.std.specs.Prelude.{ℕ, Bool, true, false, if◌then◌else◌, List, [], ◌∷◌}
use Rattle.job_tree.specs.declared.object.ObjectKind.{ObjectKind}
use Rattle.job_tree.specs.declared.object.ObjectKind.TheVariants.{Limiter, Channel}
use Rattle.job_tree.specs.declared.object.Ask.{Ask}
use Rattle.job_tree.specs.declared.object.Ask.TheVariants.{Acquire, Send, Receive}
use Rattle.job_reader.specs.declared.target.TargetKind.{TargetKind}
use Rattle.job_reader.specs.declared.target.TargetKind.TheVariants as target

-- a step asks a limiter for a token, and a channel for what it sends or receives
abbrev pub kind_asked : Ask → TargetKind
kind_asked Acquire = target.Limiter
kind_asked Send = target.Channel
kind_asked Receive = target.Channel

abbrev pub kind_opened : ObjectKind → TargetKind
kind_opened (Limiter n) = target.Limiter
kind_opened (Channel n) = target.Channel

abbrev pub is_same : TargetKind → TargetKind → Bool
is_same target.Scope target.Scope = true
is_same target.Event target.Event = true
is_same target.Limiter target.Limiter = true
is_same target.Channel target.Channel = true
is_same _ _ = false

-- a block that steps inside it can name: what it is, and its name
pub record Named : Type 0 where
  pub kind : TargetKind
  pub name : List ℕ

-- the names of those of a kind
abbrev pub of_kind : TargetKind → List Named → List (List ℕ)
of_kind kind [] = []
of_kind kind (n ∷ ns) = if is_same kind n.kind then n.name ∷ of_kind kind ns else of_kind kind ns
