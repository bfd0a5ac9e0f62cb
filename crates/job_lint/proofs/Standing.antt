-- Each warning is at a keyword that it can be about.
use Rattle.std.proofs.Common.{◌≡◌, ℕ, zero, suc, ◌+◌, Bool, true, false, ◌&&◌, not, List, [], ◌∷◌, ◌++◌, length, drop, Some, None, refl, sym, ap, ◌∙◌, append_assoc, arith}
use Rattle.std.specs.Prelude.{slice_get, if◌then◌else◌}
use Rattle.std.proofs.lemmas.List.{length-append}
use Rattle.std.proofs.lemmas.List.{drop-drop}
use Rattle.std.proofs.Math.Seq.{drop-append_seam}
use Rattle.job_tree.specs.declared.object.ObjectKind.TheVariants.{Limiter, Channel}
use Rattle.job_tree.specs.declared.object.Ask.{Ask}
use Rattle.job_tree.specs.declared.object.Ask.TheVariants.{Acquire, Send, Receive}
use Rattle.job_tree.specs.Tree.{Step, sleep, checkpoint, forever, pace, find, head, longest, need, raise, cancel, set_event, wait_for, ask_for, close_channel, scope, nursery, event, object, start, repeat, attempt, Steps, stop, step, Handled, unhandled, except, Cleaned, uncleaned, finally}
use Rattle.job_syntax.specs.declared.keyword.Keyword.{Keyword}
use Rattle.job_syntax.specs.declared.keyword.Keyword.TheVariants as word
use Rattle.job_syntax.specs.Pieces.{ask_word}
use Rattle.job_reader.specs.Given.{is_among}
use Rattle.job_lint.specs.declared.around.Around.{Around}
use Rattle.job_lint.specs.declared.warning.Lint.TheVariants.{UnsetEvent, UnawaitedEvent, UnusedLimiter, OrderInversion, UnsentChannel, UnreceivedChannel, UnclosedChannel}
use Rattle.job_lint.specs.declared.warning.Warning.{Warning}
use Rattle.job_lint.specs.declared.sought.Sought.TheVariants.{Set, Await, Asking, Close, Looped, Inverted}
use Rattle.job_lint.specs.Seeking.{is_never, has}
use Rattle.job_lint.specs.Openings.{openings_of, openings_in, handled_openings, cleaned_openings, numbered_in}
use Rattle.job_lint.specs.Warnings.{in_block, in_cleanup, in_handler, is_cancelled, is_nursery_cancelled, warn_if, with_warning, never_ends_well, own_warning, endless_shield, idle_scope, can_raise, warnings_at, warnings_of, warnings_in, handled_warnings, cleaned_warnings}
use Rattle.job_lint.specs.Fitting.{own_keyword, keywords_of, keywords_in, handled_keywords, cleaned_keywords, begins_step, is_wait, StandsAtKeyword, AllStandAtKeywords}

abbrev Keywords : Type 0
Keywords = List Keyword

-- ---- the keywords of a part of a job

-- the keywords of a part are this many, followed by others
abbrev Splits : Keywords → Keywords → ℕ → Type 0
Splits all others n = (ks : Keywords) × (all ≡ ks ++ others) × (length ks ≡ n)

headed : (k : Keyword) (all others : Keywords) (n : ℕ) → Splits all others n → Splits (k ∷ all) others (1 + n)
headed k all others n (ks, e, l) = (k ∷ ks, ap (λ (x : Keywords). k ∷ x) e, omega (arith, l))

joined : (all mid others : Keywords) (m n : ℕ) → Splits all mid m → Splits mid others n → Splits all others (m + n)
joined all mid others m n (ks, e, l) (ms, f, k) = (
  ks ++ ms,
  e ∙ ap (λ (x : Keywords). ks ++ x) f ∙ sym (append_assoc ks ms others),
  omega (arith, length-append ks ms, l, k),
)

counted : (all others : Keywords) (m n : ℕ) → m ≡ n → Splits all others m → Splits all others n
counted all others m n e (ks, f, l) = (ks, f, l ∙ e)

mutual
  split_of : (ss : Steps) (others : Keywords) → Splits (keywords_of ss others) others (openings_of ss)
  split_of stop others = ([], refl, refl)
  split_of (step s ss) others =
      let following = joined _ (keywords_of ss others) others (openings_in s) (openings_of ss) (split_in s (keywords_of ss others))
      (split_of ss others) in
      counted _ others (1 + (openings_in s + openings_of ss)) (1 + openings_in s + openings_of ss) (omega arith)
      (headed (own_keyword s) _ others (openings_in s + openings_of ss) following)

  split_in : (s : Step) (others : Keywords) → Splits (keywords_in s others) others (openings_in s)
  split_in (sleep n) others = ([], refl, refl)
  split_in checkpoint others = ([], refl, refl)
  split_in forever others = ([], refl, refl)
  split_in (pace n) others = ([], refl, refl)
  split_in (find t) others = ([], refl, refl)
  split_in (head n) others = ([], refl, refl)
  split_in longest others = ([], refl, refl)
  split_in (need t n) others = ([], refl, refl)
  split_in (raise n) others = ([], refl, refl)
  split_in (cancel n) others = ([], refl, refl)
  split_in (set_event n) others = ([], refl, refl)
  split_in (wait_for n) others = ([], refl, refl)
  split_in (ask_for n ask body) others = split_of body others
  split_in (close_channel n) others = ([], refl, refl)
  split_in (scope n d s f body) others = split_of body others
  split_in (nursery n d s body) others = split_of body others
  split_in (event n body) others = split_of body others
  split_in (object n kind body) others = split_of body others
  split_in (start n o body) others = split_of body others
  split_in (repeat n over body) others = split_of body others
  split_in (attempt body h c) others =
      let cleaned = cleaned_keywords c others in
      joined _ cleaned others (openings_of body + handled_openings h) (cleaned_openings c)
      (joined _ (handled_keywords h cleaned) cleaned (openings_of body) (handled_openings h) (split_of body (handled_keywords h cleaned))
      (split_handled h cleaned)) (split_cleaned c others)

  split_handled : (h : Handled) (others : Keywords) → Splits (handled_keywords h others) others (handled_openings h)
  split_handled unhandled others = ([], refl, refl)
  split_handled (except n body) others = headed word.Except _ others (openings_of body) (split_of body others)

  split_cleaned : (c : Cleaned) (others : Keywords) → Splits (cleaned_keywords c others) others (cleaned_openings c)
  split_cleaned uncleaned others = ([], refl, refl)
  split_cleaned (finally body) others = headed word.Finally _ others (openings_of body) (split_of body others)

-- a block has as many keywords as are counted
pub as_many : (ss : Steps) → length (keywords_of ss []) ≡ openings_of ss
as_many ss =
    let one = split_of ss [] in
    ap (length {A = Keyword}) one.1 ∙ length-append one.0 [] ∙ (omega (arith, one.2))

-- ---- numbers among all keywords

-- the keyword with this number, and those after it
at_number : (all : Keywords) (n : ℕ) (k : Keyword) (others : Keywords) → drop n all ≡ k ∷ others →
    (slice_get all n ≡ Some k) × (drop (n + 1) all ≡ others)
at_number [] zero k others e = absurd cc
at_number [] (suc n) k others e = absurd cc
at_number (x ∷ xs) zero k others e = (cc, cc)
at_number (x ∷ xs) (suc n) k others e =
    let same : suc n + 1 ≡ suc (n + 1) = omega arith in
    rw same (at_number xs n k others e)

-- the keywords after a part
after_part : (all : Keywords) (n m : ℕ) (part others : Keywords) → drop n all ≡ part → Splits part others m → drop (n + m) all ≡ others
after_part all n m part others e (ks, f, l) =
    sym (drop-drop m n all) ∙ ap (λ (x : Keywords). drop m x) (e ∙ f) ∙ ap (λ (x : ℕ). drop x (ks ++ others)) (sym l)
    ∙ drop-append_seam ks others

-- ---- what is found

-- an optional warning, followed by others
with_if : (places : List ℕ) (keywords : Keywords) (b : Bool) (w : Warning) (others : List Warning) → StandsAtKeyword places keywords w →
    AllStandAtKeywords places keywords others → AllStandAtKeywords places keywords (with_warning (warn_if b w) others)
with_if places keywords true w others stands all = (stands, all)
with_if places keywords false w others stands all = all

begins : (s : Step) → begins_step (own_keyword s) ≡ true
begins (ask_for n Acquire body) = refl
begins (ask_for n Send body) = refl
begins (ask_for n Receive body) = refl
begins (object n (Limiter c) body) = refl
begins (object n (Channel c) body) = refl
begins _ = refl

asking_waits : (ask : Ask) → is_wait (ask_word ask) ≡ true
asking_waits Acquire = refl
asking_waits Send = refl
asking_waits Receive = refl

own_stands : (places : List ℕ) (keywords : Keywords) (around : Around) (opened : List (List ℕ)) (n : ℕ) (s : Step) (others : List Warning) →
    slice_get keywords n ≡ Some (own_keyword s) → AllStandAtKeywords places keywords others →
    AllStandAtKeywords places keywords (with_warning (own_warning around opened (numbered_in places n) s) others)
own_stands places keywords around opened n (sleep t) others got all =
    with_if places keywords around.exposed _ others (n, word.Sleep, refl, got, refl) all
own_stands places keywords around opened n checkpoint others got all =
    with_if places keywords around.exposed _ others (n, word.Checkpoint, refl, got, refl) all
own_stands places keywords around opened n forever others got all =
    with_if places keywords around.exposed _ others (n, word.Forever, refl, got, refl) all
own_stands places keywords around opened n (pace t) others got all =
    with_if places keywords around.exposed _ others (n, word.Pace, refl, got, refl) all
own_stands places keywords around opened n (find t) others got all = all
own_stands places keywords around opened n (head t) others got all = all
own_stands places keywords around opened n longest others got all = all
own_stands places keywords around opened n (need t x) others got all = all
own_stands places keywords around opened n (raise x) others got all =
    with_if places keywords around.cleanup _ others (n, word.Raise, refl, got, refl) all
own_stands places keywords around opened n (cancel x) others got all =
    with_if places keywords (around.late && not (is_among opened x)) _ others (n, word.Cancel, refl, got, refl) all
own_stands places keywords around opened n (set_event x) others got all = all
own_stands places keywords around opened n (wait_for x) others got all =
    with_if places keywords around.exposed _ others (n, word.Wait, refl, got, refl) all
own_stands places keywords around opened n (ask_for x ask body) others got all =
    with_if places keywords around.exposed _ others (n, ask_word ask, refl, got, asking_waits ask) all
own_stands places keywords around opened n (close_channel x) others got all = all
own_stands places keywords around opened n (scope x d shield f body) others got all = by_flags (is_never d) shield
  where
    by_flags : (never shielded : Bool) → AllStandAtKeywords places keywords
        (with_warning (if not never then None else (if shielded then endless_shield x body (numbered_in places n)
        else idle_scope around x f body (numbered_in places n))) others)
    by_flags false shielded = all
    by_flags true true = with_if places keywords _ _ others (n, word.Scope, refl, got, refl) all
    by_flags true false = with_if places keywords _ _ others (n, word.Scope, refl, got, refl) all
own_stands places keywords around opened n (nursery x d shield body) others got all = by_flag (is_never d && shield)
  where
    by_flag : (b : Bool) → AllStandAtKeywords places keywords
        (with_warning (if b then endless_shield x body (numbered_in places n) else None) others)
    by_flag false = all
    by_flag true = with_if places keywords _ _ others (n, word.Nursery, refl, got, refl) all
own_stands places keywords around opened n (event x body) others got all = by_flag (has (Set x) body)
  where
    by_flag : (b : Bool) → AllStandAtKeywords places keywords
        (with_warning (if b then warn_if (not (has (Await x) body)) (record { at = numbered_in places n; lint = UnawaitedEvent; name = Some x })
        else Some (record { at = numbered_in places n; lint = UnsetEvent; name = Some x })) others)
    by_flag true = with_if places keywords _ _ others (n, word.Event, refl, got, refl) all
    by_flag false = ((n, word.Event, refl, got, refl), all)
own_stands places keywords around opened n (object x (Limiter c) body) others got all = by_flag (has (Asking Acquire x) body)
  where
    by_flag : (b : Bool) → AllStandAtKeywords places keywords
        (with_warning (if b then warn_if (has (Inverted x) body) (record { at = numbered_in places n; lint = OrderInversion; name = Some x })
        else Some (record { at = numbered_in places n; lint = UnusedLimiter; name = Some x })) others)
    by_flag true = with_if places keywords _ _ others (n, word.Limiter, refl, got, refl) all
    by_flag false = ((n, word.Limiter, refl, got, refl), all)
own_stands places keywords around opened n (object x (Channel c) body) others got all =
    by_flags (has (Asking Receive x) body) (has (Close x) body) (has (Asking Send x) body)
  where
    by_flags : (received closed sent : Bool) → AllStandAtKeywords places keywords
        (with_warning (if received then (if closed then None
        else (if sent then warn_if (has (Looped x) body) (record { at = numbered_in places n; lint = UnclosedChannel; name = Some x })
        else Some (record { at = numbered_in places n; lint = UnsentChannel; name = Some x })))
        else Some (record { at = numbered_in places n; lint = UnreceivedChannel; name = Some x })) others)
    by_flags false closed sent = ((n, word.Channel, refl, got, refl), all)
    by_flags true true sent = all
    by_flags true false true = with_if places keywords _ _ others (n, word.Channel, refl, got, refl) all
    by_flags true false false = ((n, word.Channel, refl, got, refl), all)
own_stands places keywords around opened n (start x o body) others got all = all
own_stands places keywords around opened n (repeat c over body) others got all = all
own_stands places keywords around opened n (attempt body h c) others got all = all

-- both warnings of a step
both_stand : (places : List ℕ) (keywords : Keywords) (around : Around) (opened : List (List ℕ)) (unreachable : Bool) (n : ℕ) (s : Step)
    (others : List Warning) →
    slice_get keywords n ≡ Some (own_keyword s) → AllStandAtKeywords places keywords others →
    AllStandAtKeywords places keywords (warnings_at unreachable around opened (numbered_in places n) s others)
both_stand places keywords around opened unreachable n s others got all =
    with_if places keywords unreachable _ _ (n, own_keyword s, refl, got, begins s)
    (own_stands places keywords around opened n s others got all)

mutual
  -- the same, given the keywords from a number on: those of the part, followed by others
  stand_of : (places : List ℕ) (keywords : Keywords) (around : Around) (opened : List (List ℕ)) (unreachable : Bool) (n : ℕ)
      (ss : Steps) (more : Keywords) (others : List Warning) → drop n keywords ≡ keywords_of ss more →
      AllStandAtKeywords places keywords others → AllStandAtKeywords places keywords (warnings_of (numbered_in places) around opened unreachable n ss others)
  stand_of places keywords around opened unreachable n stop more others e all = all
  stand_of places keywords around opened unreachable n (step s ss) more others e all =
      let one = at_number keywords n (own_keyword s) (keywords_in s (keywords_of ss more)) e in
      let after = after_part keywords (n + 1) (openings_in s) _ (keywords_of ss more) one.1 (split_in s (keywords_of ss more)) in
      let rest = stand_of places keywords around opened (never_ends_well s) (n + 1 + openings_in s) ss more others after all in
      both_stand places keywords around opened unreachable n s _ one.0
      (stand_in places keywords around opened (n + 1) s (keywords_of ss more) _ one.1 rest)

  stand_in : (places : List ℕ) (keywords : Keywords) (around : Around) (opened : List (List ℕ)) (n : ℕ) (s : Step) (more : Keywords)
      (others : List Warning) → drop n keywords ≡ keywords_in s more → AllStandAtKeywords places keywords others →
      AllStandAtKeywords places keywords (warnings_in (numbered_in places) around opened n s others)
  stand_in places keywords around opened n (sleep t) more others e all = all
  stand_in places keywords around opened n checkpoint more others e all = all
  stand_in places keywords around opened n forever more others e all = all
  stand_in places keywords around opened n (pace t) more others e all = all
  stand_in places keywords around opened n (find t) more others e all = all
  stand_in places keywords around opened n (head t) more others e all = all
  stand_in places keywords around opened n longest more others e all = all
  stand_in places keywords around opened n (need t x) more others e all = all
  stand_in places keywords around opened n (raise x) more others e all = all
  stand_in places keywords around opened n (cancel x) more others e all = all
  stand_in places keywords around opened n (set_event x) more others e all = all
  stand_in places keywords around opened n (wait_for x) more others e all = all
  stand_in places keywords around opened n (ask_for x ask body) more others e all =
      stand_of places keywords around opened false n body more others e all
  stand_in places keywords around opened n (close_channel x) more others e all = all
  stand_in places keywords around opened n (scope x d shield f body) more others e all =
      stand_of places keywords (in_block shield (is_cancelled x d body) around) (x ∷ opened) false n body more others e all
  stand_in places keywords around opened n (nursery x d shield body) more others e all =
      stand_of places keywords (in_block shield (is_nursery_cancelled x d body) around) (x ∷ opened) false n body more others e all
  stand_in places keywords around opened n (event x body) more others e all =
      stand_of places keywords around opened false n body more others e all
  stand_in places keywords around opened n (object x kind body) more others e all =
      stand_of places keywords around opened false n body more others e all
  stand_in places keywords around opened n (start x o body) more others e all =
      stand_of places keywords around opened false n body more others e all
  stand_in places keywords around opened n (repeat c over body) more others e all =
      stand_of places keywords around opened false n body more others e all
  stand_in places keywords around opened n (attempt body h c) more others e all =
      let cleaned = cleaned_keywords c more in
      let tried = after_part keywords n (openings_of body) _ (handled_keywords h cleaned) e (split_of body (handled_keywords h cleaned)) in
      let handled = after_part keywords (n + openings_of body) (handled_openings h) _ cleaned tried (split_handled h cleaned) in
      stand_of places keywords around opened false n body (handled_keywords h cleaned) _ e
      (stand_handled places keywords around (n + openings_of body) body h cleaned _ tried
      (stand_cleaned places keywords around (n + openings_of body + handled_openings h) c more others handled all))

  stand_handled : (places : List ℕ) (keywords : Keywords) (around : Around) (n : ℕ) (tried : Steps) (h : Handled) (more : Keywords)
      (others : List Warning) → drop n keywords ≡ handled_keywords h more → AllStandAtKeywords places keywords others →
      AllStandAtKeywords places keywords (handled_warnings (numbered_in places) around n tried h others)
  stand_handled places keywords around n tried unhandled more others e all = all
  stand_handled places keywords around n tried (except x body) more others e all =
      let one = at_number keywords n word.Except (keywords_of body more) e in
      with_if places keywords (not (can_raise x tried)) _ _ (n, word.Except, refl, one.0, refl)
      (stand_of places keywords (in_handler around) [] false (n + 1) body more others one.1 all)

  stand_cleaned : (places : List ℕ) (keywords : Keywords) (around : Around) (n : ℕ) (c : Cleaned) (more : Keywords)
      (others : List Warning) → drop n keywords ≡ cleaned_keywords c more → AllStandAtKeywords places keywords others →
      AllStandAtKeywords places keywords (cleaned_warnings (numbered_in places) around n c others)
  stand_cleaned places keywords around n uncleaned more others e all = all
  stand_cleaned places keywords around n (finally body) more others e all =
      let one = at_number keywords n word.Finally (keywords_of body more) e in
      stand_of places keywords (in_cleanup around) [] false (n + 1) body more others one.1 all

-- the warnings of a block that has all the keywords
pub all_stand : (places : List ℕ) (keywords : Keywords) (around : Around) (ss : Steps) → keywords ≡ keywords_of ss [] →
    AllStandAtKeywords places keywords (warnings_of (numbered_in places) around [] false 0 ss [])
all_stand places keywords around ss e = stand_of places keywords around [] false 0 ss [] [] e tt
