-- The names that a job defines, found along its tokens. If none is given twice, they are distinct.
use Rattle.std.proofs.Common.{◌≡◌, ℕ, Bool, true, false, ◌||◌, List, [], ◌∷◌, ◌++◌, Option, Some, None, refl, sym, ap, subst, ◌∙◌, cond, append_assoc, append-nil}
use Rattle.std.specs.List.{AllByRecursion, IsDistinct}
use Rattle.std.specs.Str.{bytes_eq}
use Rattle.std.proofs.lemmas.Cmp.{nat_list_eq_equiv}
use Rattle.job_tree.specs.declared.format.Format.{Format}
use Rattle.job_tree.specs.Starting.{starts_in_pass}
use Rattle.job_tree.specs.declared.deadline.Deadline.{Deadline}
use Rattle.job_tree.specs.declared.deadline.Deadline.TheVariants.{Never, After, At}
use Rattle.job_tree.specs.declared.object.Ask.TheVariants.{Acquire, Send, Receive}
use Rattle.job_tree.specs.Tree.{Step, sleep, checkpoint, forever, pace, find, head, longest, need, raise, cancel, set_event, wait_for, ask_for, close_channel, scope, nursery, event, object, start, repeat, attempt, Steps, stop, step, Handled, unhandled, except, Cleaned, uncleaned, finally, Tree}
use Rattle.job_tree.specs.Names.{names_of, names_in, handled_names, cleaned_names, GivesNamesOnce}
use Rattle.job_tokens.specs.declared.token.Shape.{Shape}
use Rattle.job_tokens.specs.declared.token.Token.{Token}
use Rattle.job_tokens.specs.Shapes.{shapes_of}
use Rattle.job_syntax.specs.declared.keyword.Keyword.{Keyword}
use Rattle.job_syntax.specs.declared.keyword.Keyword.TheVariants as word
use Rattle.job_syntax.specs.Pieces.{Piece, shapes_in, roles_in, opens, deadline_pieces, flag_pieces, over_pieces, passes_pieces, steps_pieces, step_pieces, handler_pieces, cleanup_pieces, job_pieces, loop_inside, AreSteps, IsStep, IsHandler, IsCleanup}
use Rattle.job_reader.specs.Given.{given_by, is_among, twice_at, twice_in}

abbrev pub Names : Type 0
Names = List (List ℕ)

-- ---- names one after the other

-- none of the names is already known or equal to one before it
abbrev pub NoneTwice : Names → Names → Type 0
NoneTwice known [] = Unit {0}
NoneTwice known (n ∷ ns) = (is_among known n ≡ false) × NoneTwice (known ++ n ∷ []) ns

-- a name that is not in a list differs from each name in it
differs : (front back : Names) (k n : List ℕ) → is_among (front ++ k ∷ back) n ≡ false → bytes_eq k n ≡ false
differs [] back k n none = sym (nat_list_eq_equiv.symm n k) ∙ (either (bytes_eq n k) (is_among back n) none).0
  where
    either : (a b : Bool) → a || b ≡ false → (a ≡ false) × (b ≡ false)
    either false b e = (refl, e)
    either true b e = absurd cc
differs (f ∷ front) back k n none = differs front back k n (or_else (bytes_eq n f) (is_among (front ++ k ∷ back) n) none)
  where
    or_else : (a b : Bool) → a || b ≡ false → b ≡ false
    or_else false b e = e
    or_else true b e = absurd cc

-- a known name differs from all that follow
apart : (front back : Names) (k : List ℕ) (ns : Names) → NoneTwice (front ++ k ∷ back) ns
    → AllByRecursion (λ n. bytes_eq k n ≡ false) ns
apart front back k [] none = tt
apart front back k (n ∷ ns) none =
    let others = subst (λ (known : Names). NoneTwice known ns) (append_assoc front (k ∷ back) (n ∷ [])) none.1 in
    (differs front back k n none.0, apart front (back ++ n ∷ []) k ns others)

-- names of which none is given twice are distinct
pub distinct : (known ns : Names) → NoneTwice known ns → IsDistinct bytes_eq ns
unfolding IsDistinct
distinct known [] none = tt
distinct known (n ∷ ns) none = (apart known [] n ns none.1, distinct (known ++ n ∷ []) ns none.1)

-- ---- along the tokens

-- a name, if there is one, followed by others
abbrev pub with_name : Option (List ℕ) → Names → Names
with_name None names = names
with_name (Some name) names = name ∷ names

-- the names that tokens give, in the order of the text
abbrev pub given_in : List Piece → Names
given_in [] = []
given_in (p ∷ ps) = with_name (given_by p.role p.shape) (given_in ps)

-- if the search finds nothing, none of those names is given twice
pub none_twice : (known : Names) (ts : List Token) (ps : List Piece) → shapes_of ts ≡ shapes_in ps
    → twice_in known ts (roles_in ps) ≡ None → NoneTwice known (given_in ps)
none_twice known [] [] e none = tt
none_twice known [] (p ∷ ps) e none = absurd cc
none_twice known (t ∷ ts) [] e none = absurd cc
none_twice known (t ∷ ts) (p ∷ ps) e none =
    by_given (given_by p.role p.shape) (subst (λ (s : Shape). Quiet (given_by p.role s)) head none) (λ names. none_twice names ts ps tail)
  where
    head : t.shape ≡ p.shape
    head = cc

    tail : shapes_of ts ≡ shapes_in ps
    tail = cc

    Quiet : Option (List ℕ) → Type 0
    Quiet given = twice_at given t.at known (λ names. twice_in names ts (roles_in ps)) ≡ None

    by_among : (b : Bool) (after : Option ℕ) → cond b (Some t.at) after ≡ None → (b ≡ false) × (after ≡ None)
    by_among false after found = (refl, found)
    by_among true after found = absurd cc

    by_given : (g : Option (List ℕ)) → Quiet g → ((names : Names) → twice_in names ts (roles_in ps) ≡ None → NoneTwice names (given_in ps))
        → NoneTwice known (with_name g (given_in ps))
    by_given None found others = others known found
    by_given (Some name) found others =
        let two = by_among (is_among known name) (twice_in (known ++ name ∷ []) ts (roles_in ps)) found in
        (two.0, others (known ++ name ∷ []) two.1)

-- ---- construct by construct

past_flag : (k : Keyword) (b : Bool) (rest : List Piece) → given_in (flag_pieces k b rest) ≡ given_in rest
past_flag k false rest = refl
past_flag k true rest = refl

past_deadline : (d : Deadline) (rest : List Piece) → given_in (deadline_pieces d rest) ≡ given_in rest
past_deadline Never rest = refl
past_deadline (After n) rest = refl
past_deadline (At n) rest = refl

past_over : (o : Option ℕ) (rest : List Piece) → given_in (over_pieces o rest) ≡ given_in rest
past_over None rest = refl
past_over (Some n) rest = refl

past_passes : (over : Bool) (n : ℕ) (rest : List Piece) → given_in (passes_pieces over n rest) ≡ given_in rest
past_passes false n rest = refl
past_passes true n rest = refl

-- a name before those of a block
after_name : {names more : Names} (name : List ℕ) → names ≡ more → name ∷ names ≡ name ∷ more
after_name name e = ap (λ (ns : Names). name ∷ ns) e

-- the names of two parts, one after the other
in_turn : {all after : Names} (first second rest : Names) → all ≡ first ++ after → after ≡ second ++ rest
    → all ≡ (first ++ second) ++ rest
in_turn first second rest e f = e ∙ ap (λ (ns : Names). first ++ ns) f ∙ sym (append_assoc first second rest)

mutual
  steps_give : (format : Format) (inside : Bool) (steps : Steps) (rest : List Piece) → AreSteps format inside steps →
      given_in (steps_pieces steps rest) ≡ names_of steps ++ given_in rest
  steps_give format inside stop rest are = refl
  steps_give format inside (step s ss) rest are =
      in_turn (names_in s) (names_of ss) (given_in rest) (step_gives format inside s (steps_pieces ss rest) are.0)
      (steps_give format inside ss rest are.1)

  step_gives : (format : Format) (inside : Bool) (s : Step) (rest : List Piece) → IsStep format inside s →
      given_in (step_pieces s rest) ≡ names_in s ++ given_in rest
  step_gives format inside (sleep n) rest is = refl
  step_gives format inside checkpoint rest is = refl
  step_gives format inside forever rest is = refl
  step_gives format inside (pace n) rest is = refl
  step_gives format inside (find t) rest is = refl
  step_gives format inside (head n) rest is = refl
  step_gives format inside longest rest is = refl
  step_gives format inside (need t n) rest is = refl
  step_gives format inside (raise n) rest is = refl
  step_gives format inside (cancel n) rest is = refl
  step_gives format inside (set_event n) rest is = refl
  step_gives format inside (wait_for n) rest is = refl
  step_gives format inside (ask_for n Acquire body) rest is = steps_give format false body rest is.2
  step_gives format inside (ask_for n Send stop) rest is = refl
  step_gives format inside (ask_for n Send (step s ss)) rest is = absurd is.1
  step_gives format inside (ask_for n Receive body) rest is = steps_give format false body rest is.2
  step_gives format inside (close_channel n) rest is = refl
  step_gives format inside (scope n d s f body) rest is =
      let block = opens ∷ steps_pieces body rest in
      let flagged = flag_pieces word.Fail f block in
      let shielded = flag_pieces word.Shield s flagged in
      let passed = past_deadline d shielded ∙ past_flag word.Shield s flagged ∙ past_flag word.Fail f block in
      after_name n (passed ∙ steps_give format false body rest is)
  step_gives format inside (nursery n d s body) rest is =
      let block = opens ∷ steps_pieces body rest in
      let passed = past_deadline d (flag_pieces word.Shield s block) ∙ past_flag word.Shield s block in
      after_name n (passed ∙ steps_give format true body rest is.1)
  step_gives format inside (event n body) rest is = after_name n (steps_give format false body rest is.1)
  step_gives format inside (object n kind body) rest is = after_name n (steps_give format false body rest is.1)
  step_gives format inside (start n o body) rest is =
      after_name n (past_over o (opens ∷ steps_pieces body rest) ∙ steps_give format false body rest is.1)
  step_gives format inside (repeat n over body) rest is =
      past_passes over n (opens ∷ steps_pieces body rest)
      ∙ steps_give format (starts_in_pass over (loop_inside format inside)) body rest is.2
  step_gives format inside (attempt body h c) rest is =
      let cleaned = cleanup_pieces c rest in
      let inner = steps_give format false body (handler_pieces h cleaned) is.1 in
      let handled = in_turn (names_of body) (handled_names h) (given_in cleaned) inner (handler_gives format h cleaned is.2) in
      in_turn (names_of body ++ handled_names h) (cleaned_names c) (given_in rest) handled (cleanup_gives format c rest is.3)

  handler_gives : (format : Format) (h : Handled) (rest : List Piece) → IsHandler format h →
      given_in (handler_pieces h rest) ≡ handled_names h ++ given_in rest
  handler_gives format unhandled rest is = refl
  handler_gives format (except n body) rest is = steps_give format false body rest is

  cleanup_gives : (format : Format) (c : Cleaned) (rest : List Piece) → IsCleanup format c →
      given_in (cleanup_pieces c rest) ≡ cleaned_names c ++ given_in rest
  cleanup_gives format uncleaned rest is = refl
  cleanup_gives format (finally body) rest is = steps_give format false body rest is

-- the names that the tokens of a job give are its own and those of its steps
pub job_gives : (job : Tree) → AreSteps job.format false job.steps → given_in (job_pieces job) ≡ job.name ∷ names_of job.steps
job_gives job are = after_name job.name (steps_give job.format false job.steps [] are ∙ append-nil (names_of job.steps))

-- a job whose tokens give no name twice gives each name once
pub names_once : (job : Tree) (tokens : List Token) → AreSteps job.format false job.steps → shapes_of tokens ≡ shapes_in (job_pieces job)
    → twice_in [] tokens (roles_in (job_pieces job)) ≡ None → GivesNamesOnce job
names_once job tokens are e none =
    subst (IsDistinct bytes_eq) (job_gives job are) (distinct [] (given_in (job_pieces job)) (none_twice [] tokens (job_pieces job) e none))
