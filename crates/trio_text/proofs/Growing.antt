-- Each piece of the program adds a text at the end, and the pieces of a block add the functions of its tasks.
use Rattle.std.proofs.Common.{◌≡◌, ℕ, List, [], ◌∷◌, ◌++◌, Bool, true, false, Option, Some, None, refl, sym, ap, subst, ◌∙◌, inl, inr, append_assoc, append-nil, codes}
use Rattle.std.specs.Prelude.{if◌then◌else◌, nat_eq, decimal, not, ◌&&◌}
use Rattle.std.specs.List.{ends_with}
use Rattle.job_tokens.specs.Canon.{canon_of}
use Rattle.job_tokens.specs.declared.token.Shape.TheVariants as shape
use Rattle.job_tree.specs.declared.deadline.Deadline.{Deadline}
use Rattle.job_tree.specs.declared.deadline.Deadline.TheVariants.{Never, After, At}
use Rattle.job_tree.specs.declared.object.ObjectKind.{ObjectKind}
use Rattle.job_tree.specs.declared.object.ObjectKind.TheVariants.{Limiter, Channel}
use Rattle.job_tree.specs.declared.object.Ask.TheVariants.{Acquire, Send, Receive}
use Rattle.job_tree.specs.Tree.{Step, sleep, checkpoint, forever, pace, find, head, longest, need, raise, cancel, set_event, wait_for, ask_for, close_channel, scope, nursery, event, object, start, repeat, attempt, Steps, stop, step, Handled, unhandled, except, Cleaned, uncleaned, finally, Tree}
use Rattle.trio_text.specs.Names.{name_text}
use Rattle.trio_text.specs.Uses.{Known, among, known_of, classes_of}
use Rattle.trio_text.specs.Needs.{uses_of}
use Rattle.trio_text.specs.Tasks.{tasks_of, tasks_in, handled_tasks, cleaned_tasks, function_head, HasFunction, HasFunctions}
use Rattle.trio_text.specs.Lines.{margin, deeper, with_line, with_gap, with_used, with_nested_block, with_nested_call}
use Rattle.trio_text.specs.Statements.{raised_class, with_call, with_text, with_find, with_need, with_cancel, with_set, with_wait, with_close, with_statement, with_plain, is_plain, scope_kind, plain_scope, with_timed_scope, with_scope_call, with_setting, with_scope, with_opened, with_deadline_from, with_deadline, with_nursery, with_event, with_object_call, with_object, with_acquire, with_send, with_received, with_receive, with_task, with_start, with_cuts, with_starts, with_repeat, with_each_part, with_each_cut, with_handling}
use Rattle.trio_text.specs.Program.{IsProgram, header, imports, classes, helpers, footer, with_root, with_start_time}
use Rattle.trio_text.specs.Blocks.{OrPass, Inside, Tried, Finally, Apart, with_nested_try, with_nested_calls, Writes, WritesStep, WritesHandler, WritesTry}

-- ---- functions in longer texts

in_longer : (front name text back : List ℕ) → HasFunction name text → HasFunction name ((front ++ text) ++ back)
in_longer front name text back has =
    let moved : (f t b : List ℕ) → (front ++ ((f ++ t) ++ b)) ++ back ≡ ((front ++ f) ++ t) ++ (b ++ back) = λ f t b. simp append_assoc in
    record {
      front = front ++ has.front;
      back = has.back ++ back;
      is = ap (λ (x : List ℕ). (front ++ x) ++ back) has.is ∙ moved has.front (function_head name) has.back;
    }

all_in_longer : (front : List ℕ) (names : List (List ℕ)) (text back : List ℕ) → HasFunctions names text →
    HasFunctions names ((front ++ text) ++ back)
all_in_longer front [] text back all = tt
all_in_longer front (name ∷ names) text back all = (in_longer front name text back all.0, all_in_longer front names text back all.1)

-- in a text after another one
all_later : (names : List (List ℕ)) (front text : List ℕ) → HasFunctions names text → HasFunctions names (front ++ text)
all_later names front text all =
    let P : List ℕ → Type 0 = λ x. HasFunctions names x in subst P (append-nil (front ++ text)) (all_in_longer front names text [] all)

-- in a text before another one
all_earlier : (names : List (List ℕ)) (text back : List ℕ) → HasFunctions names text → HasFunctions names (text ++ back)
all_earlier names text back all = all_in_longer [] names text back all

join : (names others : List (List ℕ)) (text : List ℕ) → HasFunctions names text → HasFunctions others text → HasFunctions (names ++ others) text
join [] others text all more = more
join (name ∷ names) others text all more = (all.0, join names others text all.1 more)

-- ---- what is added

-- `after` is `before` and a text that has the functions of these tasks
pub record Grows (names : List (List ℕ)) (before after : List ℕ) : Type 0 where
  pub text : List ℕ
  pub is : after ≡ before ++ text
  pub has : HasFunctions names text

abbrev Longer : List ℕ → List ℕ → Type 0
Longer before after = Grows [] before after

grows : (names : List (List ℕ)) (a b c t u : List ℕ) → b ≡ a ++ t → c ≡ b ++ u → HasFunctions names (t ++ u) → Grows names a c
grows names a b c t u one two has = record { text = t ++ u; is = two ∙ ap (λ (x : List ℕ). x ++ u) one ∙ append_assoc a t u; has = has }

-- one after the other
in_turn : (names others : List (List ℕ)) (a b c : List ℕ) → Grows names a b → Grows others b c → Grows (names ++ others) a c
in_turn names others a b c one two =
    grows (names ++ others) a b c one.text two.text one.is two.is
    (join names others (one.text ++ two.text) (all_earlier names one.text two.text one.has) (all_later others one.text two.text two.has))

-- one after the other, with the tasks of the second listed first
in_other_turn : (names others : List (List ℕ)) (a b c : List ℕ) → Grows names a b → Grows others b c → Grows (others ++ names) a c
in_other_turn names others a b c one two =
    grows (others ++ names) a b c one.text two.text one.is two.is
    (join others names (one.text ++ two.text) (all_later others one.text two.text two.has) (all_earlier names one.text two.text one.has))

-- a piece with no functions, and then one with functions; or the other way round
then_grows : (names : List (List ℕ)) (a b c : List ℕ) → Longer a b → Grows names b c → Grows names a c
then_grows names a b c one two = in_turn [] names a b c one two

grows_then : (names : List (List ℕ)) (a b c : List ℕ) → Grows names a b → Longer b c → Grows names a c
grows_then names a b c one two =
    grows names a b c one.text two.text one.is two.is (all_earlier names one.text two.text one.has)

same : (a : List ℕ) → Longer a a
same a = record { text = []; is = sym (append-nil a); has = tt }

is_same : (a b : List ℕ) → b ≡ a → Longer a b
is_same a b is = record { text = []; is = is ∙ sym (append-nil a); has = tt }

-- a longer text, and one more text
more : (a b t : List ℕ) → Longer a b → Longer a (b ++ t)
more a b t one = record { text = one.text ++ t; is = ap (λ (x : List ℕ). x ++ t) one.is ∙ append_assoc a one.text t; has = tt }

along : (a b c : List ℕ) → Longer a b → Longer b c → Longer a c
along a b c one two = then_grows [] a b c one two

adds : (a x b : List ℕ) → Longer a x → b ≡ x → Longer a b
adds a x b one is = let P : List ℕ → Type 0 = λ y. Longer a y in subst P (sym is) one

-- ---- the texts of lines and statements

longer_line : (level : ℕ) (line a : List ℕ) → Longer a (with_line level line a)
unfolding with_line
longer_line level line a = more a _ (codes "\n") (more a _ line (more a _ (margin level) (same a)))

longer_if : (test : Bool) (a : List ℕ) → Longer a (if test then a else a ++ codes "\n")
longer_if true a = same a
longer_if false a = more a a (codes "\n") (same a)

longer_gap : (a : List ℕ) → Longer a (with_gap a)
unfolding with_gap
longer_gap a = longer_if (ends_with nat_eq a (codes ":\n")) a

longer_used : (test : Bool) (t a : List ℕ) → Longer a (with_used test t a)
longer_used true t a = more a a t (same a)
longer_used false t a = same a

longer_nested_block : (level : ℕ) (a : List ℕ) → Longer a (with_nested_block level a)
unfolding with_nested_block
longer_nested_block level a = along a (with_gap a) _ (longer_gap a) (longer_line level (codes "async def nested_block():") (with_gap a))

longer_nested_call : (level : ℕ) (a : List ℕ) → Longer a (with_nested_call level a)
unfolding with_nested_call
longer_nested_call level a =
    along a (a ++ codes "\n") _ (more a a (codes "\n") (same a)) (longer_line level (codes "await nested_block()") (a ++ codes "\n"))

longer_nested_try : (level : ℕ) (a : List ℕ) → Longer a (with_nested_try level a)
unfolding with_nested_try
longer_nested_try level a =
    along a (with_nested_block level a) _ (longer_nested_block level a)
    (longer_line (deeper level) (codes "async def nested_cleanup():") (with_nested_block level a))

longer_nested_calls : (level : ℕ) (a : List ℕ) → Longer a (with_nested_calls level a)
unfolding with_nested_calls
longer_nested_calls level a =
    let b = with_line (deeper level) (codes "finally:") a in
    let d = with_line (deeper (deeper level)) (codes "await nested_cleanup()") b in
    along a b _ (longer_line (deeper level) (codes "finally:") a)
    (along b d _ (longer_line (deeper (deeper level)) (codes "await nested_cleanup()") b) (longer_nested_call level d))

longer_call : (call : List ℕ) (n : ℕ) (a : List ℕ) → Longer a (with_call call n a)
unfolding with_call
longer_call call n a = more a _ (codes ")") (more a _ (decimal n) (more a _ call (same a)))

longer_text : (text a : List ℕ) → Longer a (with_text text a)
unfolding with_text
longer_text text a = more a _ (canon_of (shape.Text text ∷ [])) (more a _ (codes "b") (same a))

longer_find : (text a : List ℕ) → Longer a (with_find text a)
unfolding with_find
longer_find text a =
    let b = a ++ codes "find(part, " in
    more a _ (codes ")") (along a b _ (more a a (codes "find(part, ") (same a)) (longer_text text b))

longer_need : (known : Known) (text name a : List ℕ) → Longer a (with_need known text name a)
unfolding with_need
longer_need known text name a =
    let b = a ++ codes "need(part, " in
    more a _ (codes ")") (more a _ (raised_class known name) (more a _ (codes ", ")
    (along a b _ (more a a (codes "need(part, ") (same a)) (longer_text text b))))

longer_cancel : (is_nursery : Bool) (name a : List ℕ) → Longer a (with_cancel is_nursery name a)
unfolding with_cancel
longer_cancel is_nursery name a =
    let b = a ++ name_text name in
    more a _ (codes ".cancel()") (along a b _ (more a a (name_text name) (same a)) (longer_used is_nursery (codes ".cancel_scope") b))

longer_set : (name a : List ℕ) → Longer a (with_set name a)
unfolding with_set
longer_set name a = more a _ (codes ".set()") (more a a (name_text name) (same a))

longer_wait : (name a : List ℕ) → Longer a (with_wait name a)
unfolding with_wait
longer_wait name a = more a _ (codes ".wait()") (more a _ (name_text name) (more a a (codes "await ") (same a)))

longer_close : (name a : List ℕ) → Longer a (with_close name a)
unfolding with_close
longer_close name a = more a _ (codes ".send_channel.close()") (more a a (name_text name) (same a))

longer_statement : (known : Known) (s : Step) (a : List ℕ) → Longer a (with_statement known s a)
longer_statement known (sleep n) a = longer_call (codes "await trio.sleep(") n a
longer_statement known checkpoint a = more a a (codes "await trio.lowlevel.checkpoint()") (same a)
longer_statement known forever a = more a a (codes "await trio.sleep_forever()") (same a)
longer_statement known (pace k) a = longer_call (codes "await pace(part, ") k a
longer_statement known (find text) a = longer_find text a
longer_statement known (head n) a = longer_call (codes "head(part, ") n a
longer_statement known longest a = more a a (codes "longest(part)") (same a)
longer_statement known (need text name) a = longer_need known text name a
longer_statement known (raise name) a = more a _ (raised_class known name) (more a a (codes "raise ") (same a))
longer_statement known (cancel name) a = longer_cancel (among known.nurseries name) name a
longer_statement known (set_event name) a = longer_set name a
longer_statement known (wait_for name) a = longer_wait name a
longer_statement known (close_channel name) a = longer_close name a
longer_statement known s a = same a

longer_plain : (known : Known) (level : ℕ) (s : Step) (a : List ℕ) → Longer a (with_plain known level s a)
unfolding with_plain
longer_plain known level s a =
    let b = a ++ margin level in
    more a _ (codes "\n") (along a b _ (more a a (margin level) (same a)) (longer_statement known s b))

longer_timed : (deadline : Deadline) (fail : Bool) (a : List ℕ) → Longer a (with_timed_scope deadline fail a)
longer_timed Never fail a = more a _ (codes "_after(float(\"inf\"))") (more a a (scope_kind fail) (same a))
longer_timed (After ticks) fail a = along a (a ++ scope_kind fail) _ (more a a (scope_kind fail) (same a)) (longer_call (codes "_after(") ticks (a ++ scope_kind fail))
longer_timed (At tick) fail a = along a (a ++ scope_kind fail) _ (more a a (scope_kind fail) (same a)) (longer_call (codes "_at(start + ") tick (a ++ scope_kind fail))

longer_scope_call : (plain : Bool) (deadline : Deadline) (shield fail : Bool) (a : List ℕ) → Longer a (with_scope_call plain deadline shield fail a)
longer_scope_call true deadline shield fail a = more a a (plain_scope shield) (same a)
longer_scope_call false deadline shield fail a = longer_timed deadline fail a

longer_setting : (level : ℕ) (is_set : Bool) (name setting a : List ℕ) → Longer a (with_setting level is_set name setting a)
longer_setting level true name setting a = more a _ setting (more a _ (name_text name) (more a a (margin level) (same a)))
longer_setting level false name setting a = same a

longer_scope : (level : ℕ) (name : List ℕ) (deadline : Deadline) (shield fail : Bool) (a : List ℕ) →
    Longer a (with_scope level name deadline shield fail a)
unfolding with_scope
longer_scope level name deadline shield fail a =
    let b = (a ++ margin level) ++ codes "with trio." in
    let d = with_scope_call (is_plain deadline fail) deadline shield fail b in
    let e = ((d ++ codes " as ") ++ name_text name) ++ codes ":\n" in
    along a b _ (more a _ (codes "with trio.") (more a a (margin level) (same a)))
    (along b d _ (longer_scope_call (is_plain deadline fail) deadline shield fail b)
    (along d e _ (more d _ (codes ":\n") (more d _ (name_text name) (more d d (codes " as ") (same d))))
    (longer_setting (deeper level) (shield && not (is_plain deadline fail)) name (codes ".shield = True\n") e)))

longer_opened : (level : ℕ) (name a : List ℕ) → Longer a (with_opened level name a)
unfolding with_opened
longer_opened level name a =
    more a _ (codes ":\n") (more a _ (name_text name) (more a _ (codes "async with trio.open_nursery() as ") (more a a (margin level) (same a))))

longer_deadline_from : (level : ℕ) (name from : List ℕ) (ticks : ℕ) (a : List ℕ) → Longer a (with_deadline_from level name from ticks a)
unfolding with_deadline_from
longer_deadline_from level name from ticks a =
    more a _ (codes "\n") (more a _ (decimal ticks) (more a _ from (more a _ (codes ".cancel_scope.deadline = ")
    (more a _ (name_text name) (more a a (margin level) (same a))))))

longer_deadline : (level : ℕ) (name : List ℕ) (deadline : Deadline) (a : List ℕ) → Longer a (with_deadline level name deadline a)
longer_deadline level name Never a = same a
longer_deadline level name (After ticks) a = longer_deadline_from level name (codes "trio.current_time() + ") ticks a
longer_deadline level name (At tick) a = longer_deadline_from level name (codes "start + ") tick a

longer_nursery : (level : ℕ) (name : List ℕ) (deadline : Deadline) (shield : Bool) (a : List ℕ) →
    Longer a (with_nursery level name deadline shield a)
unfolding with_nursery
longer_nursery level name deadline shield a =
    let b = with_opened level name a in
    let d = with_deadline (deeper level) name deadline b in
    along a b _ (longer_opened level name a)
    (along b d _ (longer_deadline (deeper level) name deadline b)
    (longer_setting (deeper level) shield name (codes ".cancel_scope.shield = True\n") d))

longer_event : (level : ℕ) (name a : List ℕ) → Longer a (with_event level name a)
unfolding with_event
longer_event level name a = more a _ (codes " = trio.Event()\n") (more a _ (name_text name) (more a a (margin level) (same a)))

longer_object_call : (kind : ObjectKind) (a : List ℕ) → Longer a (with_object_call kind a)
longer_object_call (Limiter tokens) a = longer_call (codes " = trio.CapacityLimiter(") tokens a
longer_object_call (Channel places) a = longer_call (codes " = Channel(") places a

longer_object : (level : ℕ) (name : List ℕ) (kind : ObjectKind) (a : List ℕ) → Longer a (with_object level name kind a)
unfolding with_object
longer_object level name kind a =
    let b = (a ++ margin level) ++ name_text name in
    more a _ (codes "\n") (along a b _ (more a _ (name_text name) (more a a (margin level) (same a))) (longer_object_call kind b))

longer_acquire : (level : ℕ) (name a : List ℕ) → Longer a (with_acquire level name a)
unfolding with_acquire
longer_acquire level name a =
    more a _ (codes "):\n") (more a _ (name_text name) (more a _ (codes "async with token_of(") (more a a (margin level) (same a))))

longer_send : (level : ℕ) (name a : List ℕ) → Longer a (with_send level name a)
unfolding with_send
longer_send level name a =
    more a _ (codes ".send_channel.send(part)\n") (more a _ (name_text name) (more a _ (codes "await ") (more a a (margin level) (same a))))

longer_received : (level : ℕ) (a : List ℕ) → Longer a (with_received level a)
unfolding with_received
longer_received level a = along a (with_gap a) _ (longer_gap a) (longer_line level (codes "async def received(part):") (with_gap a))

longer_receive : (level : ℕ) (name a : List ℕ) → Longer a (with_receive level name a)
unfolding with_receive
longer_receive level name a =
    more a _ (codes ".receive_channel.receive())\n") (more a _ (name_text name) (more a _ (codes "await received(await ")
    (more a _ (margin level) (more a a (codes "\n") (same a)))))

longer_start : (level : ℕ) (around name end a : List ℕ) → Longer a (with_start level around name end a)
unfolding with_start
longer_start level around name end a =
    more a _ end (more a _ (name_text name) (more a _ (codes ".start_soon(") (more a _ (name_text around) (more a a (margin level) (same a)))))

longer_cuts : (level count : ℕ) (a : List ℕ) → Longer a (with_cuts level count a)
unfolding with_cuts
longer_cuts level count a =
    let b = (a ++ codes "\n") ++ margin level in
    more a _ (codes ":\n")
    (along a b _ (more a _ (margin level) (more a a (codes "\n") (same a))) (longer_call (codes "for cut in over(part, ") count b))

longer_starts : (level : ℕ) (around name : List ℕ) (over : Option ℕ) (a : List ℕ) → Longer a (with_starts level around name over a)
unfolding with_starts
longer_starts level around name None a =
    let b = a ++ codes "\n" in
    along a b _ (more a a (codes "\n") (same a)) (longer_start level around name (codes ")\n") b)
longer_starts level around name (Some copies) a =
    let b = with_cuts level copies a in
    along a b _ (longer_cuts level copies a) (longer_start (deeper level) around name (codes ", cut)\n") b)

longer_repeat : (level count : ℕ) (a : List ℕ) → Longer a (with_repeat level count a)
unfolding with_repeat
longer_repeat level count a =
    let b = a ++ margin level in
    more a _ (codes ":\n") (along a b _ (more a a (margin level) (same a)) (longer_call (codes "for _ in range(") count b))

longer_each_part : (level : ℕ) (a : List ℕ) → Longer a (with_each_part level a)
unfolding with_each_part
longer_each_part level a = along a (with_gap a) _ (longer_gap a) (longer_line level (codes "async def each_part(part):") (with_gap a))

longer_each_cut : (level count : ℕ) (a : List ℕ) → Longer a (with_each_cut level count a)
unfolding with_each_cut
longer_each_cut level count a =
    let b = with_cuts level count a in
    along a b _ (longer_cuts level count a) (longer_line (deeper level) (codes "await each_part(cut)") b)

longer_handling : (known : Known) (level : ℕ) (name a : List ℕ) → Longer a (with_handling known level name a)
unfolding with_handling
longer_handling known level name a =
    let b = with_line level (codes "except BaseException as error:") a in
    along a b _ (longer_line level (codes "except BaseException as error:") a)
    (more b _ (codes ", error):\n") (more b _ (raised_class known name) (more b _ (codes "with handling(") (more b b (margin (deeper level)) (same b)))))

-- ---- the functions of tasks

-- a longer text, the head of a function and one more text
with_head : (a b name rest : List ℕ) → Longer a b → Grows (name ∷ []) a (((b ++ codes "async def ") ++ name_text name) ++ (codes "(" ++ rest))
with_head a b name rest one =
    let moved : (x t n p : List ℕ) → (((a ++ x) ++ t) ++ n) ++ (p ++ rest) ≡ a ++ ((x ++ ((t ++ n) ++ p)) ++ rest) = λ x t n p. simp append_assoc in
    record {
      text = (one.text ++ function_head name) ++ rest;
      is = ap (λ (y : List ℕ). ((y ++ codes "async def ") ++ name_text name) ++ (codes "(" ++ rest)) one.is
          ∙ moved one.text (codes "async def ") (name_text name) (codes "(");
      has = (record { front = one.text; back = rest; is = refl }, tt);
    }

grows_task : (level : ℕ) (name : List ℕ) (over : Option ℕ) (a : List ℕ) → Grows (name ∷ []) a (with_task level name over a)
unfolding with_task
grows_task level name None a =
    let b = with_gap a in
    let d = with_line level (codes "@reported") b in
    with_head a (d ++ margin level) name (codes "):\n")
    (more a d (margin level) (along a b d (longer_gap a) (longer_line level (codes "@reported") b)))
grows_task level name (Some copies) a =
    let b = with_gap a in
    let d = with_line level (codes "@reported") b in
    with_head a (d ++ margin level) name (codes "part):\n")
    (more a d (margin level) (along a b d (longer_gap a) (longer_line level (codes "@reported") b)))

-- ---- blocks

-- what is written at any level adds the functions of these tasks
abbrev pub AtAnyLevel : List (List ℕ) → (ℕ → List ℕ → List ℕ → Type 0) → Type 0
AtAnyLevel names Written = (level : ℕ) (a b : List ℕ) → Written level a b → Grows names a b

or_pass : (steps : Steps) (Written : ℕ → List ℕ → List ℕ → Type 0) → AtAnyLevel (tasks_of steps) Written →
    AtAnyLevel (tasks_of steps) (OrPass steps Written)
or_pass stop Written all level a b is = adds a (with_line level (codes "pass") a) b (longer_line level (codes "pass") a) is
or_pass (step s ss) Written all level a b is = all level a b is

inside : (names : List (List ℕ)) (Written : ℕ → List ℕ → List ℕ → Type 0) → AtAnyLevel names Written →
    AtAnyLevel names (Inside Written)
inside names Written all level a b (inl direct) = all level a b direct
inside names Written all level a b (inr apart) =
    let inner = apart.ends in
    then_grows names a apart.middle b (adds a (with_nested_block level a) apart.middle (longer_nested_block level a) apart.starts)
    (grows_then names apart.middle inner.middle b (all (deeper level) apart.middle inner.middle inner.starts)
    (adds inner.middle (with_nested_call level inner.middle) b (longer_nested_call level inner.middle) inner.ends))

-- the block of steps
block : (steps : Steps) (Written : ℕ → List ℕ → List ℕ → Type 0) → AtAnyLevel (tasks_of steps) Written →
    AtAnyLevel (tasks_of steps) (Inside (OrPass steps Written))
block steps Written all = inside (tasks_of steps) (OrPass steps Written) (or_pass steps Written all)

tried : (names others : List (List ℕ)) (Body Handler : ℕ → List ℕ → List ℕ → Type 0) → AtAnyLevel names Body → AtAnyLevel others Handler →
    AtAnyLevel (names ++ others) (Tried Body Handler)
tried names others Body Handler body handler level a b is =
    let inner = is.ends in
    then_grows (names ++ others) a is.middle b (adds a (with_line level (codes "try:") a) is.middle (longer_line level (codes "try:") a) is.starts)
    (in_turn names others is.middle inner.middle b (body (deeper level) is.middle inner.middle inner.starts)
    (handler level inner.middle b inner.ends))

finally_grows : (names : List (List ℕ)) (Cleanup : ℕ → List ℕ → List ℕ → Type 0) → AtAnyLevel names Cleanup → AtAnyLevel names (Finally Cleanup)
finally_grows names Cleanup cleanup level a b is =
    then_grows names a is.middle b (adds a (with_line level (codes "finally:") a) is.middle (longer_line level (codes "finally:") a) is.starts)
    (cleanup (deeper level) is.middle b is.ends)

apart_grows : (names others : List (List ℕ)) (Cleanup Trying : ℕ → List ℕ → List ℕ → Type 0) → AtAnyLevel others Cleanup → AtAnyLevel names Trying →
    AtAnyLevel (names ++ others) (Apart Cleanup Trying)
apart_grows names others Cleanup Trying cleanup trying level a b is =
    let two = is.ends in
    let three = two.ends in
    let four = three.ends in
    then_grows (names ++ others) a is.middle b (adds a (with_nested_try level a) is.middle (longer_nested_try level a) is.starts)
    (in_other_turn others names is.middle two.middle b (cleanup (deeper (deeper level)) is.middle two.middle two.starts)
    (then_grows names two.middle three.middle b
    (adds two.middle (two.middle ++ codes "\n") three.middle (more two.middle two.middle (codes "\n") (same two.middle)) three.starts)
    (grows_then names three.middle four.middle b (trying (deeper level) three.middle four.middle four.starts)
    (adds four.middle (with_nested_calls level four.middle) b (longer_nested_calls level four.middle) four.ends))))

try_grows : (known : Known) (around : List ℕ) (names others : List (List ℕ)) (body : Steps) (Trying : ℕ → List ℕ → List ℕ → Type 0) →
    AtAnyLevel names Trying → AtAnyLevel others (Inside (OrPass body (Writes known around body))) →
    AtAnyLevel (names ++ others) (WritesTry known around (finally body) Trying)
try_grows known around names others body Trying trying cleanup level a b (inl plain) =
    in_turn names others a plain.middle b (trying level a plain.middle plain.starts)
    (finally_grows others (Inside (OrPass body (Writes known around body))) cleanup level plain.middle b plain.ends)
try_grows known around names others body Trying trying cleanup level a b (inr apart) =
    apart_grows names others (Inside (OrPass body (Writes known around body))) Trying cleanup trying level a b apart

no_cleanup : (names : List (List ℕ)) (a b : List ℕ) → Grows names a b → Grows (names ++ []) a b
no_cleanup names a b is = let P : List (List ℕ) → Type 0 = λ ns. Grows ns a b in subst P (sym (append-nil names)) is

-- a cleanup adds the functions of its tasks
abbrev CleanupGrows : Known → List ℕ → Cleaned → Type 0
CleanupGrows known around uncleaned = Unit {0}
CleanupGrows known around (finally body) = AtAnyLevel (tasks_of body) (Inside (OrPass body (Writes known around body)))

any_try_grows : (known : Known) (around : List ℕ) (cleanup : Cleaned) (names : List (List ℕ)) (Trying : ℕ → List ℕ → List ℕ → Type 0) →
    AtAnyLevel names Trying → CleanupGrows known around cleanup → AtAnyLevel (names ++ cleaned_tasks cleanup) (WritesTry known around cleanup Trying)
any_try_grows known around uncleaned names Trying trying cleaned level a b is = no_cleanup names a b (trying level a b is)
any_try_grows known around (finally body) names Trying trying cleaned level a b is =
    try_grows known around names (tasks_of body) body Trying trying cleaned level a b is

mutual
  pub writes_grow : (known : Known) (around : List ℕ) (steps : Steps) → AtAnyLevel (tasks_of steps) (Writes known around steps)
  writes_grow known around stop level a b is = is_same a b is
  writes_grow known around (step s ss) level a b is =
      in_turn (tasks_in s) (tasks_of ss) a is.middle b (step_grows known around s level a is.middle is.starts)
      (writes_grow known around ss level is.middle b is.ends)

  step_grows : (known : Known) (around : List ℕ) (s : Step) → AtAnyLevel (tasks_in s) (WritesStep known around s)
  step_grows known around (scope name deadline shield fail body) level a b is =
      then_grows (tasks_of body) a is.middle b
      (adds a (with_scope level name deadline shield fail a) is.middle (longer_scope level name deadline shield fail a) is.starts)
      (block body (Writes known around body) (writes_grow known around body) (deeper level) is.middle b is.ends)
  step_grows known around (nursery name deadline shield body) level a b is =
      then_grows (tasks_of body) a is.middle b
      (adds a (with_nursery level name deadline shield a) is.middle (longer_nursery level name deadline shield a) is.starts)
      (block body (Writes known name body) (writes_grow known name body) (deeper level) is.middle b is.ends)
  step_grows known around (event name body) level a b is =
      then_grows (tasks_of body) a is.middle b (adds a (with_event level name a) is.middle (longer_event level name a) is.starts)
      (writes_grow known around body level is.middle b is.ends)
  step_grows known around (object name kind body) level a b is =
      then_grows (tasks_of body) a is.middle b (adds a (with_object level name kind a) is.middle (longer_object level name kind a) is.starts)
      (writes_grow known around body level is.middle b is.ends)
  step_grows known around (ask_for name Acquire body) level a b is =
      then_grows (tasks_of body) a is.middle b (adds a (with_acquire level name a) is.middle (longer_acquire level name a) is.starts)
      (block body (Writes known around body) (writes_grow known around body) (deeper level) is.middle b is.ends)
  step_grows known around (ask_for name Send body) level a b is =
      then_grows (tasks_of body) a is.middle b (adds a (with_send level name a) is.middle (longer_send level name a) is.starts)
      (writes_grow known around body level is.middle b is.ends)
  step_grows known around (ask_for name Receive body) level a b is =
      let inner = is.ends in
      then_grows (tasks_of body) a is.middle b (adds a (with_received level a) is.middle (longer_received level a) is.starts)
      (grows_then (tasks_of body) is.middle inner.middle b
      (block body (Writes known around body) (writes_grow known around body) (deeper level) is.middle inner.middle inner.starts)
      (adds inner.middle (with_receive level name inner.middle) b (longer_receive level name inner.middle) inner.ends))
  step_grows known around (start name over body) level a b is =
      let inner = is.ends in
      let P : List ℕ → Type 0 = λ x. Grows (name ∷ []) a x in
      in_turn (name ∷ []) (tasks_of body) a is.middle b (subst P (sym is.starts) (grows_task level name over a))
      (grows_then (tasks_of body) is.middle inner.middle b
      (block body (Writes known around body) (writes_grow known around body) (deeper level) is.middle inner.middle inner.starts)
      (adds inner.middle (with_starts level around name over inner.middle) b (longer_starts level around name over inner.middle) inner.ends))
  step_grows known around (repeat count false body) level a b is =
      then_grows (tasks_of body) a is.middle b
      (adds a (with_repeat level count a) is.middle (longer_repeat level count a) is.starts)
      (block body (Writes known around body) (writes_grow known around body) (deeper level) is.middle b is.ends)
  step_grows known around (repeat count true body) level a b is =
      let inner = is.ends in
      then_grows (tasks_of body) a is.middle b (adds a (with_each_part level a) is.middle (longer_each_part level a) is.starts)
      (grows_then (tasks_of body) is.middle inner.middle b
      (block body (Writes known around body) (writes_grow known around body) (deeper level) is.middle inner.middle inner.starts)
      (adds inner.middle (with_each_cut level count inner.middle) b (longer_each_cut level count inner.middle) inner.ends))
  step_grows known around (attempt body handler cleanup) level a b is =
      any_try_grows known around cleanup (tasks_of body ++ handled_tasks handler)
      (Tried (Inside (OrPass body (Writes known around body))) (WritesHandler known around handler))
      (tried (tasks_of body) (handled_tasks handler) (Inside (OrPass body (Writes known around body))) (WritesHandler known around handler)
      (block body (Writes known around body) (writes_grow known around body)) (handler_grows known around handler))
      (cleanup_grows known around cleanup) level a b is
  step_grows known around s level a b is = adds a (with_plain known level s a) b (longer_plain known level s a) is

  handler_grows : (known : Known) (around : List ℕ) (handler : Handled) → AtAnyLevel (handled_tasks handler) (WritesHandler known around handler)
  handler_grows known around unhandled level a b is = is_same a b is
  handler_grows known around (except name body) level a b is =
      then_grows (tasks_of body) a is.middle b
      (adds a (with_handling known level name a) is.middle (longer_handling known level name a) is.starts)
      (block body (Writes known around body) (writes_grow known around body) (deeper (deeper level)) is.middle b is.ends)

  cleanup_grows : (known : Known) (around : List ℕ) (cleanup : Cleaned) → CleanupGrows known around cleanup
  cleanup_grows known around uncleaned = tt
  cleanup_grows known around (finally body) = block body (Writes known around body) (writes_grow known around body)

-- ---- a program

grows_root : (name a : List ℕ) → Grows (name ∷ []) a (with_root name a)
unfolding with_root
grows_root name a =
    let moved : (t n p : List ℕ) → ((a ++ (codes "\n\n" ++ t)) ++ n) ++ p ≡ (((a ++ codes "\n\n") ++ t) ++ n) ++ p = λ t n p. simp append_assoc in
    let P : List ℕ → Type 0 = λ x. Grows (name ∷ []) a x in
    subst P (sym (moved (codes "async def ") (name_text name) (codes "(part):\n")))
    (with_head a (a ++ codes "\n\n") name (codes "part):\n") (more a a (codes "\n\n") (same a)))

longer_start_time : (is_used : Bool) (a : List ℕ) → Longer a (with_start_time is_used a)
longer_start_time true a = longer_line 1 (codes "start = trio.current_time()") a
longer_start_time false a = same a

-- a program has a function for each task of its job
pub program_functions : (job : Tree) (text : List ℕ) → IsProgram job text → HasFunctions (job.name ∷ tasks_of job.steps) text
program_functions job text is =
    let names = job.name ∷ tasks_of job.steps in
    let start = is.tasks.middle in
    let is_timed = (uses_of job.steps).start in
    let P : List ℕ → Type 0 = λ x. Grows (job.name ∷ []) [] x in
    let root = subst P (sym is.tasks.starts)
    (grows_then (job.name ∷ []) [] (with_root job.name []) (with_start_time is_timed (with_root job.name []))
    (grows_root job.name []) (longer_start_time is_timed (with_root job.name []))) in
    let rest = or_pass job.steps (Writes (known_of job) job.name job.steps) (writes_grow (known_of job) job.name job.steps) 1
    start is.functions is.tasks.ends in
    let all = in_turn (job.name ∷ []) (tasks_of job.steps) [] start is.functions root rest in
    let Q : List ℕ → Type 0 = λ x. HasFunctions names x in
    let inner = subst Q (sym all.is) all.has in
    let front = (header job.name ++ imports (uses_of job.steps)) ++ classes (known_of job) (classes_of job) in
    subst Q (sym is.parts)
    (all_earlier names ((front ++ is.functions) ++ helpers (uses_of job.steps)) (footer job.name)
    (all_earlier names (front ++ is.functions) (helpers (uses_of job.steps)) (all_later names front is.functions inner)))
