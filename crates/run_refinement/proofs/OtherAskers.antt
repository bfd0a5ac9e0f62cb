-- Limiters and channels by what is known later of who left their queues: other askers in the place of the first ones.
use Rattle.std.proofs.Common.{◌≡◌, ℕ, ◌<◌, Bool, true, false, List, [], ◌∷◌, map, refl, ap, sym, ◌∙◌, nat_le, if◌then◌else◌}
use Rattle.input_lines.specs.Lines.{Range}
use Rattle.job_tree.specs.declared.object.Ask.TheVariants.{Acquire, Send, Receive}
use Rattle.objects.specs.Limiters as limiters
use Rattle.objects.specs.Channels as channels
use Rattle.job_meaning.specs.Log.{Act, opens, asks, gives_back, closes}
use Rattle.job_meaning.specs.Sharing.{Done, Asker, asker_of, stays_at, Object, unopened, a_limiter, a_channel, opened_by, object_of, limiter_acts, channel_acts, serve_act, by_moment, insert_by_moment}
use Rattle.job_tree.specs.declared.object.ObjectKind.{ObjectKind}
use Rattle.job_tree.specs.declared.object.ObjectKind.TheVariants as kinds
use Rattle.job_meaning.proofs.ServedAlike.{limiter_by, channel_by, AllLimiterActsAlike, limiter_alike, AllChannelActsAlike, channel_alike}
use Rattle.turn_semantics.specs.Lists.{Each}
use Rattle.run_refinement.specs.Sharing.{object_after}

-- an act with another asker
abbrev pub act_with : (Asker → Asker) → Done → Act → Act
act_with h d (opens kind) = opens kind
act_with h d (asks ask part left) = asks ask part (h (asker_of d left)).left
act_with h d gives_back = gives_back
act_with h d closes = closes

abbrev pub done_with : (Asker → Asker) → Done → Done
done_with h d = record d { act = act_with h d d.act }

abbrev pub object_with : (Asker → Asker) → Object → Object
object_with h unopened = unopened
object_with h (a_limiter l) = a_limiter (limiter_by h l)
object_with h (a_channel c) = a_channel (channel_by h c)

-- it is the same task that asked in the same moment, and stays in the queue before this moment
pub record IsSameAsker (t : ℕ) (h : Asker → Asker) : Type 0 where
  pub task : (a : Asker) → (h a).task ≡ a.task
  pub at : (a : Asker) → (h a).at ≡ a.at
  pub stays : (v : ℕ) (a : Asker) → v < t → stays_at v (h a) ≡ stays_at v a

-- ---- order

insert_with : (h : Asker → Asker) (d : Done) (ds : List Done) → insert_by_moment (done_with h d) (map (done_with h) ds) ≡ map (done_with h) (insert_by_moment d ds)
insert_with h d [] = refl
insert_with h d (e ∷ es) = by_order (nat_le d.at e.at) (insert_with h d es)
  where
    by_order : (b : Bool) → insert_by_moment (done_with h d) (map (done_with h) es) ≡ map (done_with h) (insert_by_moment d es) →
        (if b then done_with h d ∷ done_with h e ∷ map (done_with h) es else done_with h e ∷ insert_by_moment (done_with h d) (map (done_with h) es))
        ≡ map (done_with h) (if b then d ∷ e ∷ es else e ∷ insert_by_moment d es)
    by_order true g = refl
    by_order false g = ap (λ (xs : List Done). done_with h e ∷ xs) g

pub sorted_with : (h : Asker → Asker) (ds : List Done) → by_moment (map (done_with h) ds) ≡ map (done_with h) (by_moment ds)
sorted_with h [] = refl
sorted_with h (d ∷ ds) = ap (insert_by_moment (done_with h d)) (sorted_with h ds) ∙ insert_with h d (by_moment ds)

-- ---- serving

same_asker : (t : ℕ) (h : Asker → Asker) → IsSameAsker t h → (d : Done) (left : _) → asker_of d (h (asker_of d left)).left ≡ h (asker_of d left)
same_asker t h same d left = λ i. record {
  task = sym (same.task (asker_of d left)) i;
  at = sym (same.at (asker_of d left)) i;
  left = (h (asker_of d left)).left;
}

limiter_act_with : (t : ℕ) (h : Asker → Asker) → IsSameAsker t h → (d : Done) (a : Act) → AllLimiterActsAlike h (limiter_acts d a) (limiter_acts d (act_with h d a))
limiter_act_with t h same d (opens kind) = tt
limiter_act_with t h same d (asks Acquire part left) = (same_asker t h same d left, tt)
limiter_act_with t h same d (asks Send part left) = tt
limiter_act_with t h same d (asks Receive part left) = tt
limiter_act_with t h same d gives_back = (tt, tt)
limiter_act_with t h same d closes = tt

channel_act_with : (t : ℕ) (h : Asker → Asker) → IsSameAsker t h → (d : Done) (a : Act) → AllChannelActsAlike h (channel_acts d a) (channel_acts d (act_with h d a))
channel_act_with t h same d (opens kind) = tt
channel_act_with t h same d (asks Acquire part left) = tt
channel_act_with t h same d (asks Send part left) = ((same_asker t h same d left, refl), tt)
channel_act_with t h same d (asks Receive part left) = (same_asker t h same d left, tt)
channel_act_with t h same d gives_back = tt
channel_act_with t h same d closes = (tt, tt)

opened_with : (h : Asker → Asker) (d : Done) (a : Act) → (opened_by (act_with h d a)).object ≡ object_with h (opened_by a).object
opened_with h d (opens kind) = of_kind kind
  where
    of_kind : (kind : ObjectKind) → object_of kind ≡ object_with h (object_of kind)
    of_kind (kinds.Limiter n) = refl
    of_kind (kinds.Channel n) = refl
opened_with h d (asks ask part left) = refl
opened_with h d gives_back = refl
opened_with h d closes = refl

served_with : (t : ℕ) (h : Asker → Asker) → IsSameAsker t h → (o : Object) (d : Done) → d.at < t →
    (serve_act (object_with h o) (done_with h d)).object ≡ object_with h (serve_act o d).object
served_with t h same unopened d lt = opened_with h d d.act
served_with t h same (a_limiter l) d lt =
    ap (λ (s : limiters.LimiterServed Asker). a_limiter s.limiter)
    (limiter_alike h l (limiters.leaves (stays_at d.at) ∷ limiter_acts d d.act) (limiters.leaves (stays_at d.at) ∷ limiter_acts d (act_with h d d.act))
    ((λ a. same.stays d.at a lt), limiter_act_with t h same d d.act))
served_with t h same (a_channel c) d lt =
    ap (λ (s : channels.ChannelServed Asker Range). a_channel s.channel)
    (channel_alike h c (channels.leaves (stays_at d.at) ∷ channel_acts d d.act) (channels.leaves (stays_at d.at) ∷ channel_acts d (act_with h d d.act))
    ((λ a. same.stays d.at a lt), channel_act_with t h same d d.act))

-- after acts before this moment an object has the other askers in the place of the first ones
pub objects_with : (t : ℕ) (h : Asker → Asker) → IsSameAsker t h → (o : Object) (ds : List Done) → Each (λ (d : Done). d.at < t) ds →
    object_after (object_with h o) (map (done_with h) ds) ≡ object_with h (object_after o ds)
objects_with t h same o [] e = refl
objects_with t h same o (d ∷ ds) e =
    ap (λ (x : Object). object_after x (map (done_with h) ds)) (served_with t h same o d e.0)
    ∙ objects_with t h same (serve_act o d).object ds e.1
