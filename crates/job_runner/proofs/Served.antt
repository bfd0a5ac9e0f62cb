-- The acts of a moment are served, one after the other.
use Rattle.std.proofs.Common.{◌≡◌, ℕ, Bool, true, false, cond, Option, Some, None, List, [], ◌∷◌, ◌++◌, map, refl, ap, sym, ◌∙◌, subst}
use Rattle.std.specs.List.{filter}
use Rattle.std.specs.Option.{ForSome, option_map}
use Rattle.std.proofs.lemmas.List.{append-nil, append_assoc, map-append}
use Rattle.std.proofs.lemmas.List.Elements.{filter-append}
use Rattle.std.proofs.lemmas.Option.{none-some, same_Some}
use Rattle.exceptions.specs.Exceptions.{Label}
use Rattle.input_lines.specs.Lines.{Range}
use Rattle.input_lines.specs.Part.{range_of}
use Rattle.input_lines.specs.declared.part.Part.{Part}
use Rattle.job_tree.specs.declared.object.Ask.{Ask}
use Rattle.job_tree.specs.declared.object.Ask.TheVariants.{Acquire, Send, Receive}
use Rattle.job_tree.specs.declared.object.ObjectKind.{ObjectKind}
use Rattle.job_meaning.specs.Log.{Act, asks, gives_back, closes, same_label}
use Rattle.job_meaning.proofs.Distinct.{same_label_equal}
use Rattle.objects.specs.Channels.{Sender}
use Rattle.objects.specs.Held.{ObjectOf, Gets, a_limiter, a_channel, gets_in, channel_in, sender_in, waits_to_send, object_in, serve, AreGranted, AreQueuedBy, IsAskedBy}
use Rattle.objects.specs.declared.given.Given.{Given}
use Rattle.objects.specs.declared.object.Object.{Object}
use Rattle.objects.specs.declared.object.Object.TheVariants as objects
use Rattle.objects.specs.declared.object.Operation.{Operation}
use Rattle.objects.specs.declared.object.Operation.TheVariants as operations
use Rattle.objects.specs.declared.ticket.Ticket.{Ticket}
use Rattle.run_refinement.specs.Sharing.{RoundAct as round_act, Served, serve_one, serve_all, acts_on}
use Rattle.job_runner.specs.declared.objects_by_label.ObjectTable.{ObjectTable}
use Rattle.job_runner.specs.declared.serving.Done.{Done}
use Rattle.job_runner.specs.declared.serving.Done.TheVariants.{Opens as opened, Asks, GivesBack, Closes}
use Rattle.job_runner.specs.declared.serving.RoundAct.{RoundAct}
use Rattle.job_runner.specs.Serving.{Granting, granted_on, served_on, OthersStay, OpensIf, ServesIf, ServesDone, ServesAct, ServesActs}
use Rattle.job_runner.specs.Shared.{act_of, object_at, round_act_of}
use Rattle.job_runner.proofs.Filters.{filter_again}

-- ---- one act

module _ (waits : Ticket → Bool) (who : Ticket) where
  -- what was served so
  abbrev served_as : ObjectOf → Operation → Served
  served_as o operation = record { object = Some (serve waits o operation).object; gets = (serve waits o operation).granted }

  asks_same : (o : ObjectOf) (ask : Ask) (part : Part) → serve_one waits (Some o) who (asks ask (range_of part) None) ≡ served_as o (operations.Asks who ask part)
  asks_same (a_limiter l) Acquire part = refl
  asks_same (a_limiter l) Send part = refl
  asks_same (a_limiter l) Receive part = refl
  asks_same (a_channel c) Acquire part = refl
  asks_same (a_channel c) Send part = refl
  asks_same (a_channel c) Receive part = refl

  gives_back_same : (o : ObjectOf) → serve_one waits (Some o) who gives_back ≡ served_as o operations.GivesBack
  gives_back_same (a_limiter l) = refl
  gives_back_same (a_channel c) = refl

  closes_same : (o : ObjectOf) → serve_one waits (Some o) who closes ≡ served_as o operations.Closes
  closes_same (a_limiter l) = refl
  closes_same (a_channel c) = refl

  -- to open one that is open does nothing
  open_same : (o : Object) (kind : ObjectKind) →
      serve_one waits (Some (object_in waits o)) who (act_of (opened kind)) ≡ record { object = Some (object_in waits o); gets = [] }
  open_same (objects.Limiter l) kind =
      ap (λ (ts : List Ticket). record { object = Some (a_limiter (record { free = l.free; waiting = ts })); gets = [] }) (filter_again waits l.waiting.items)
  open_same (objects.Channel c) kind =
      ap (λ (ss : List (Sender Ticket Range)). record { object = Some (a_channel (record (channel_in waits c) { senders = ss; receivers = filter waits (filter waits c.receivers.items) })); gets = [] })
      (filter_again (waits_to_send waits) (map sender_in c.senders.items))
      ∙ ap (λ (ts : List Ticket). record { object = Some (a_channel (record (channel_in waits c) { receivers = ts })); gets = [] })
      (filter_again waits c.receivers.items)

  -- an object of the code after it served something is that of the definitions, and so is what it grants
  record IsServed (served : Served) (new : Option Object) (before after : List Given) : Type 0 where
    object : option_map (object_in waits) new ≡ served.object
    granted : AreGranted served.gets before after

  nothing_granted : (before after : List Given) → after ≡ before → AreGranted [] before after
  nothing_granted before after e = ap (map gets_in) e ∙ sym (append-nil (map gets_in before))

  module _ (before after : List Given) where
    by_operation : (a : Act) (operation : Operation) → ((o : ObjectOf) → serve_one waits (Some o) who a ≡ served_as o operation) →
        serve_one waits None who a ≡ record { object = None; gets = [] } → (o n : Option Object) → ServesIf waits operation o n before after →
        IsServed (serve_one waits (option_map (object_in waits) o) who a) n before after
    by_operation a operation same none None n h =
        subst (λ (s : Served). IsServed s n before after) (sym none)
        (record { object = ap (option_map (object_in waits)) h.0; granted = nothing_granted before after h.1 })
    by_operation a operation same none (Some o) None h = absurd h
    by_operation a operation same none (Some o) (Some n) h =
        subst (λ (s : Served). IsServed s (Some n) before after) (sym (same (object_in waits o)))
        (record { object = ap (λ (x : ObjectOf). Some x) h.object; granted = h.granted })

    by_opening : (kind : ObjectKind) (o n : Option Object) → OpensIf kind o n → after ≡ before →
        IsServed (serve_one waits (option_map (object_in waits) o) who (act_of (opened kind))) n before after
    by_opening kind None None h e = absurd h
    by_opening kind None (Some n) h e =
        record { object = ap (λ (x : ObjectOf). Some x) (h.0 waits); granted = nothing_granted before after e }
    by_opening kind (Some o) n h e =
        subst (λ (s : Served). IsServed s n before after) (sym (open_same o kind))
        (record { object = ap (option_map (object_in waits)) h; granted = nothing_granted before after e })

    one_served : (done : Done) (label : Label) (old new : ObjectTable) → ServesDone waits who done label old new before after →
        IsServed (serve_one waits (option_map (object_in waits) (object_at old label)) who (act_of done)) (object_at new label) before after
    one_served (opened kind) label old new h = by_opening kind (object_at old label) (object_at new label) h.0.opened h.1
    one_served (Asks ask part) label old new h =
        by_operation (asks ask (range_of part) None) (operations.Asks who ask part) (λ o. asks_same o ask part) refl (object_at old label) (object_at new label)
        h.served
    one_served GivesBack label old new h =
        by_operation gives_back operations.GivesBack gives_back_same refl (object_at old label) (object_at new label) h.served
    one_served Closes label old new h = by_operation closes operations.Closes closes_same refl (object_at old label) (object_at new label) h.served

    others_stay : (done : Done) (label : Label) (old new : ObjectTable) → ServesDone waits who done label old new before after → OthersStay label old new
    others_stay (opened kind) label old new h = h.0.others
    others_stay (Asks ask part) label old new h = h.others
    others_stay GivesBack label old new h = h.others
    others_stay Closes label old new h = h.others

    -- nobody gets into a queue but who asks
    module _ (test : Ticket → Bool) (asker : test who ≡ true) where
      queued_by : (operation : Operation) → IsAskedBy test operation → (o n : Option Object) → ServesIf waits operation o n before after →
          ForSome o (AreQueuedBy test) → ForSome n (AreQueuedBy test)
      queued_by operation asked None n h queued = λ x e. absurd (none-some x (sym h.0 ∙ e))
      queued_by operation asked (Some o) None h queued = absurd h
      queued_by operation asked (Some o) (Some n) h queued = λ x e.
          subst (AreQueuedBy test) (same_Some n x e) (h.queued test (queued o refl) asked)

      opened_by : (kind : ObjectKind) (o n : Option Object) → OpensIf kind o n → ForSome o (AreQueuedBy test) → ForSome n (AreQueuedBy test)
      opened_by kind None None h queued = absurd h
      opened_by kind None (Some n) h queued = λ x e. subst (AreQueuedBy test) (same_Some n x e) (h.1 test)
      opened_by kind (Some o) n h queued = λ x e. queued x (sym h ∙ e)

      queued_there : (done : Done) (label : Label) (old new : ObjectTable) → ServesDone waits who done label old new before after →
          ForSome (object_at old label) (AreQueuedBy test) → ForSome (object_at new label) (AreQueuedBy test)
      queued_there (opened kind) label old new h = opened_by kind (object_at old label) (object_at new label) h.0.opened
      queued_there (Asks ask part) label old new h = queued_by (operations.Asks who ask part) asker (object_at old label) (object_at new label) h.served
      queued_there GivesBack label old new h = queued_by operations.GivesBack tt (object_at old label) (object_at new label) h.served
      queued_there Closes label old new h = queued_by operations.Closes tt (object_at old label) (object_at new label) h.served

      still_queued : (done : Done) (label : Label) (old new : ObjectTable) → ServesDone waits who done label old new before after →
          ((l : Label) → ForSome (object_at old l) (AreQueuedBy test)) → (l : Label) → ForSome (object_at new l) (AreQueuedBy test)
      still_queued done label old new h queued l = by_label (same_label l label) refl
        where
          by_label : (b : Bool) → same_label l label ≡ b → ForSome (object_at new l) (AreQueuedBy test)
          by_label true e =
              subst (λ (k : Label). ForSome (object_at new k) (AreQueuedBy test)) (sym (same_label_equal l label e))
              (queued_there done label old new h (queued label))
          by_label false e = λ x f. queued l x (sym (others_stay done label old new h l e) ∙ f)

-- ---- all of them

-- what one of them grants, by its label
abbrev tagged : Label → List Gets → List Granting
tagged label gs = map (λ (g : Gets). record { object = label; gets = g }) gs

tagged_gets : (label : Label) (gs : List Gets) → map (λ (g : Granting). g.gets) (tagged label gs) ≡ gs
tagged_gets label [] = refl
tagged_gets label (g ∷ gs) = ap (λ (hs : List Gets). g ∷ hs) (tagged_gets label gs)

tagged_on : (l label : Label) (gs : List Gets) → granted_on l (tagged label gs) ≡ cond (same_label l label) gs []
tagged_on l label [] = by_test (same_label l label) []
  where
    by_test : (b : Bool) (none : List Gets) → none ≡ cond b none none
    by_test true none = refl
    by_test false none = refl
tagged_on l label (g ∷ gs) = by_test (same_label l label) (tagged_on l label gs)
  where
    by_test : (b : Bool) → granted_on l (tagged label gs) ≡ cond b gs [] →
        map (λ (h : Granting). h.gets) (cond b (record { object = label; gets = g } ∷ filter (λ (h : Granting). same_label l h.object) (tagged label gs))
        (filter (λ (h : Granting). same_label l h.object) (tagged label gs))) ≡ cond b (g ∷ gs) []
    by_test true h = ap (λ (hs : List Gets). g ∷ hs) h
    by_test false h = h

on_append : (l : Label) (xs ys : List Granting) → granted_on l (xs ++ ys) ≡ granted_on l xs ++ granted_on l ys
on_append l xs ys =
    ap (map (λ (g : Granting). g.gets)) (filter-append (λ (g : Granting). same_label l g.object) xs ys)
    ∙ map-append (λ (g : Granting). g.gets) (filter (λ (g : Granting). same_label l g.object) xs) (filter (λ (g : Granting). same_label l g.object) ys)

-- what is left to be served, after some acts
pub record AreServing (waits : Ticket → Bool) (t : ℕ) (was now : ObjectTable) (all left : List RoundAct) (given : List Given) : Type 0 where
  pub objects : (l : Label) → (served_on waits t l now left).object ≡ (served_on waits t l was all).object
  pub granted : List Granting
  pub given_is : map gets_in given ≡ map (λ (g : Granting). g.gets) granted
  pub each : (l : Label) → granted_on l granted ++ (served_on waits t l now left).gets ≡ (served_on waits t l was all).gets
  pub queued :
      (test : Ticket → Bool) → ((row : ℕ) → test (record { row = row; since = t }) ≡ true) →
      ((l : Label) → ForSome (object_at was l) (AreQueuedBy test)) → (l : Label) → ForSome (object_at now l) (AreQueuedBy test)

-- that of a label before, and what an act does to it
abbrev code : (Ticket → Bool) → ObjectTable → Label → Option ObjectOf
code waits table l = option_map (object_in waits) (object_at table l)

abbrev first_on : (Ticket → Bool) → ℕ → ObjectTable → RoundAct → Label → Served
first_on waits t now a l = serve_one waits (code waits now l) (record { row = a.row; since = t }) (act_of a.done)

module _ (waits : Ticket → Bool) (t : ℕ) (now next : ObjectTable) (a : RoundAct) (left : List RoundAct) (given more : List Given)
    (serves : ServesAct waits t now next a given more)
  where
    abbrev who : Ticket
    who = record { row = a.row; since = t }

    abbrev first : Label → Served
    first l = first_on waits t now a l

    its : IsServed waits who (first a.object) (object_at next a.object) given more
    its = one_served waits who given more a.done a.object now next serves

    abbrev acts : Label → List round_act
    acts l = acts_on l (map round_act_of left)

    -- one act more
    record NextOn (l : Label) : Type 0 where
      object : (served_on waits t l next left).object ≡ (served_on waits t l now (a ∷ left)).object
      gets : cond (same_label l a.object) (first a.object).gets [] ++ (served_on waits t l next left).gets ≡ (served_on waits t l now (a ∷ left)).gets

    next_on : (l : Label) → NextOn l
    next_on l = by_label (same_label l a.object) refl
      where
        on_others : same_label l a.object ≡ false → code waits next l ≡ code waits now l
        on_others e = ap (option_map (object_in waits)) (others_stay waits who given more a.done a.object now next serves l e)

        on_it : same_label l a.object ≡ true → code waits next l ≡ (first l).object
        on_it e = subst (λ (k : Label). code waits next k ≡ (first k).object) (sym (same_label_equal l a.object e)) its.object

        by_label : (b : Bool) → same_label l a.object ≡ b → NextOn l
        by_label true e = record {
          object =
              ap (λ (o : Option ObjectOf). (serve_all waits t o (acts l)).object) (on_it e)
              ∙ ap (λ (b : Bool). (serve_all waits t (code waits now l) (cond b (round_act_of a ∷ acts l) (acts l))).object) (sym e);
          gets =
              ap (λ (b : Bool). cond b (first a.object).gets [] ++ (served_on waits t l next left).gets) e
              ∙ ap (λ (k : Label). (first k).gets ++ (served_on waits t l next left).gets) (sym (same_label_equal l a.object e))
              ∙ ap (λ (o : Option ObjectOf). (first l).gets ++ (serve_all waits t o (acts l)).gets) (on_it e)
              ∙ ap (λ (b : Bool). (serve_all waits t (code waits now l) (cond b (round_act_of a ∷ acts l) (acts l))).gets) (sym e);
        }
        by_label false e = record {
          object =
              ap (λ (o : Option ObjectOf). (serve_all waits t o (acts l)).object) (on_others e)
              ∙ ap (λ (b : Bool). (serve_all waits t (code waits now l) (cond b (round_act_of a ∷ acts l) (acts l))).object) (sym e);
          gets =
              ap (λ (b : Bool). cond b (first a.object).gets [] ++ (served_on waits t l next left).gets) e
              ∙ ap (λ (o : Option ObjectOf). (serve_all waits t o (acts l)).gets) (on_others e)
              ∙ ap (λ (b : Bool). (serve_all waits t (code waits now l) (cond b (round_act_of a ∷ acts l) (acts l))).gets) (sym e);
        }

    pub serving_next : {was : ObjectTable} {all : List RoundAct} → AreServing waits t was now all (a ∷ left) given → AreServing waits t was next all left more
    serving_next {was} {all} h = record {
      objects = λ l. (next_on l).object ∙ h.objects l;
      granted = h.granted ++ tagged a.object (first a.object).gets;
      given_is =
          its.granted
          ∙ ap (λ (gs : List Gets). gs ++ (first a.object).gets) h.given_is
          ∙ ap (λ (gs : List Gets). map (λ (g : Granting). g.gets) h.granted ++ gs) (sym (tagged_gets a.object (first a.object).gets))
          ∙ sym (map-append (λ (g : Granting). g.gets) h.granted (tagged a.object (first a.object).gets));
      each = λ l.
          ap (λ (gs : List Gets). gs ++ (served_on waits t l next left).gets)
          (on_append l h.granted (tagged a.object (first a.object).gets)
          ∙ ap (λ (gs : List Gets). granted_on l h.granted ++ gs) (tagged_on l a.object (first a.object).gets))
          ∙ append_assoc (granted_on l h.granted) (cond (same_label l a.object) (first a.object).gets []) (served_on waits t l next left).gets
          ∙ ap (λ (gs : List Gets). granted_on l h.granted ++ gs) (next_on l).gets
          ∙ h.each l;
      queued = λ test asker queued.
          still_queued waits who given more test (asker a.row) a.done a.object now next serves (h.queued test asker queued);
    }

-- once none is left, all are served
pub serving_last : {waits : Ticket → Bool} {t : ℕ} {was now : ObjectTable} {all : List RoundAct} {given : List Given} →
    AreServing waits t was now all [] given → ServesActs waits t was now all given
serving_last {waits} {t} {was} {now} {all} {given} h = record {
  objects = h.objects;
  granted = h.granted;
  given_is = h.given_is;
  each = λ l. sym (append-nil (granted_on l h.granted)) ∙ h.each l;
  queued = h.queued;
}

pub serving_first : (waits : Ticket → Bool) (t : ℕ) (table : ObjectTable) (all : List RoundAct) → AreServing waits t table table all all []
serving_first waits t table all =
    record { objects = λ l. refl; granted = []; given_is = refl; each = λ l. refl; queued = λ test asker queued. queued }
