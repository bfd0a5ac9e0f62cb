-- Which names steps use, and the names of what encloses them and is of the kind that they use: a `cancel` uses a scope or nursery, `set`
-- and `wait` an event, `acquire` a limiter, `send`, `receive` and `close` a channel.
use Rattle.std.specs.Prelude.{ℕ, List, [], ◌∷◌, ◌++◌, Option, Some, None, if◌then◌else◌}
use Rattle.job_tokens.specs.declared.token.Token.{Token}
use Rattle.job_syntax.specs.declared.role.Role.{Role}
use Rattle.job_syntax.specs.declared.role.Role.TheVariants as role
use Rattle.job_tree.specs.Tree.{Step, sleep, checkpoint, forever, pace, find, head, longest, need, raise, cancel, set_event, wait_for, ask_for, close_channel, scope, nursery, event, object, start, repeat, attempt, Steps, stop, step, Handled, unhandled, except, Cleaned, uncleaned, finally}
use Rattle.job_reader.specs.declared.target.TargetKind.{TargetKind}
use Rattle.job_reader.specs.declared.target.TargetKind.TheVariants as target
use Rattle.job_reader.specs.Given.{is_among}
use Rattle.job_reader.specs.Targets.{Named, kind_asked, kind_opened, of_kind}

-- a use of a name: the name, and the names of what encloses it and is of the kind that the step uses, the innermost first
pub record Use : Type 0 where
  pub name : List ℕ
  pub around : List (List ℕ)

abbrev pub use_of : TargetKind → List ℕ → List Named → Use
use_of kind name around = record { name = name; around = of_kind kind around }

-- a block of this kind and name, inside others
abbrev pub inside : TargetKind → List ℕ → List Named → List Named
inside kind name around = record { kind = kind; name = name } ∷ around

-- the uses in a block that these enclose, the innermost first, in the order of the text
abbrev mutual
  pub uses_of : List Named → Steps → List Use
  uses_of around stop = []
  uses_of around (step s ss) = uses_in around s ++ uses_of around ss

  pub uses_in : List Named → Step → List Use
  uses_in around (sleep n) = []
  uses_in around checkpoint = []
  uses_in around forever = []
  uses_in around (pace k) = []
  uses_in around (find text) = []
  uses_in around (head n) = []
  uses_in around longest = []
  uses_in around (need text name) = []
  uses_in around (raise name) = []
  uses_in around (cancel name) = use_of target.Scope name around ∷ []
  uses_in around (set_event name) = use_of target.Event name around ∷ []
  uses_in around (wait_for name) = use_of target.Event name around ∷ []
  uses_in around (ask_for name ask body) = use_of (kind_asked ask) name around ∷ uses_of around body
  uses_in around (close_channel name) = use_of target.Channel name around ∷ []
  uses_in around (scope name deadline shield fail body) = uses_of (inside target.Scope name around) body
  uses_in around (nursery name deadline shield body) = uses_of (inside target.Scope name around) body
  uses_in around (event name body) = uses_of (inside target.Event name around) body
  uses_in around (object name kind body) = uses_of (inside (kind_opened kind) name around) body
  uses_in around (start name over body) = uses_of around body
  uses_in around (repeat count over body) = uses_of around body
  uses_in around (attempt body handler cleanup) = uses_of around body ++ (handled_uses around handler ++ cleaned_uses around cleanup)

  pub handled_uses : List Named → Handled → List Use
  handled_uses around unhandled = []
  handled_uses around (except name body) = uses_of around body

  pub cleaned_uses : List Named → Cleaned → List Use
  cleaned_uses around uncleaned = []
  cleaned_uses around (finally body) = uses_of around body

-- the place of a name that a step uses, followed by others
abbrev pub place_of_target : Role → ℕ → List ℕ → List ℕ
place_of_target role.Target at others = at ∷ others
place_of_target role.Plain at others = others
place_of_target role.Given at others = others
place_of_target role.Raised at others = others
place_of_target role.Handled at others = others

-- the places of the names that steps use
abbrev pub targets_in : List Token → List Role → List ℕ
targets_in [] roles = []
targets_in (t ∷ ts) [] = []
targets_in (t ∷ ts) (r ∷ rs) = place_of_target r t.at (targets_in ts rs)

-- the place of the first use of a name that nothing of its kind around it has
abbrev pub stray_in : List Use → List ℕ → Option ℕ
stray_in [] places = None
stray_in (u ∷ us) [] = None
stray_in (u ∷ us) (at ∷ places) = if is_among u.around u.name then stray_in us places else Some at
