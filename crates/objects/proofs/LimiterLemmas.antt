-- How a limiter serves acts, one after the other.
use Rattle.std.proofs.Common.{◌≡◌, ◌⊎◌, ℕ, zero, suc, ◌+◌, List, [], ◌∷◌, ◌++◌, length, Bool, refl, inl, inr, arith, append_assoc, length-append}
use Rattle.std.proofs.lemmas.List.{append-nil}
use Rattle.std.specs.List.{filter}
use Rattle.objects.specs.Limiters.{Limiter, LimiterAct, acquires, gives_back, leaves, LimiterServed, new_limiter, acquire_of, give_back_to, after_act, after_acts, askers, times_back}
use Rattle.objects.specs.Laws.{IsSublist, none, with_next, ServesTokens}
use Rattle.objects.proofs.Sublists.{sublist_same, sublist_filter, sublist_in_two}

-- how a limiter served some acts, whatever was done to it before
pub record ServesFrom {A : Type 0} (l : Limiter A) (acts : List (LimiterAct A)) (served : LimiterServed A) : Type 0 where
  pub kept : served.limiter.free + length served.granted ≡ l.free + times_back acts
  pub none_left : (served.limiter.free ≡ 0) ⊎ (served.limiter.waiting ≡ [])
  pub in_turn : IsSublist (served.granted ++ served.limiter.waiting) (l.waiting ++ askers acts)

-- somebody asks
asked : {A : Type 0} (free : ℕ) (waiting : List A) (who : A) → (free ≡ 0) ⊎ (waiting ≡ []) →
    ServesFrom (record { free = free; waiting = waiting }) (acquires who ∷ []) (acquire_of free waiting who)
asked zero waiting who none_left = record { kept = refl; none_left = inl refl; in_turn = sublist_same (waiting ++ who ∷ []) }
asked (suc free) waiting who (inl e) = absurd (omega (arith, e))
asked (suc free) waiting who (inr e) =
    record { kept = omega arith; none_left = inr e; in_turn = rw e (with_next none) }

-- a token comes back
came_back : {A : Type 0} (free : ℕ) (waiting : List A) → (free ≡ 0) ⊎ (waiting ≡ []) →
    ServesFrom (record { free = free; waiting = waiting }) (gives_back ∷ []) (give_back_to free waiting)
came_back free [] none_left = record { kept = omega arith; none_left = inr refl; in_turn = none }
came_back free (first ∷ waiting) (inl e) =
    record { kept = omega arith; none_left = inl e; in_turn = rw (append-nil waiting) (sublist_same (first ∷ waiting)) }
came_back free (first ∷ waiting) (inr e) = absurd (cc)

-- some leave
left : {A : Type 0} (free : ℕ) (waiting : List A) (stays : A → Bool) → (free ≡ 0) ⊎ (waiting ≡ []) →
    ServesFrom (record { free = free; waiting = waiting }) (leaves stays ∷ [])
    (record { limiter = record { free = free; waiting = filter stays waiting }; granted = [] })
left free waiting stays none_left =
    record {
      kept = omega arith;
      none_left = elim none_left [ inl e ↦ inl e | inr e ↦ inr (rw e refl) ];
      in_turn = rw (append-nil waiting) (sublist_filter stays waiting);
    }

one_act : {A : Type 0} (l : Limiter A) (act : LimiterAct A) → (l.free ≡ 0) ⊎ (l.waiting ≡ []) → ServesFrom l (act ∷ []) (after_act l act)
one_act l (acquires who) none_left = asked l.free l.waiting who none_left
one_act l gives_back none_left = came_back l.free l.waiting none_left
one_act l (leaves stays) none_left = left l.free l.waiting stays none_left

askers_in_two : {A : Type 0} (act : LimiterAct A) (acts : List (LimiterAct A)) → askers (act ∷ acts) ≡ askers (act ∷ []) ++ askers acts
askers_in_two (acquires who) acts = refl
askers_in_two gives_back acts = refl
askers_in_two (leaves stays) acts = refl

back_in_two : {A : Type 0} (act : LimiterAct A) (acts : List (LimiterAct A)) → times_back (act ∷ acts) ≡ times_back (act ∷ []) + times_back acts
back_in_two (acquires who) acts = omega arith
back_in_two gives_back acts = omega arith
back_in_two (leaves stays) acts = omega arith

pub all_acts : {A : Type 0} (l : Limiter A) (acts : List (LimiterAct A)) → (l.free ≡ 0) ⊎ (l.waiting ≡ []) → ServesFrom l acts (after_acts l acts)
all_acts l [] none_left =
    record { kept = omega arith; none_left = none_left; in_turn = rw (append-nil l.waiting) (sublist_same l.waiting) }
all_acts l (act ∷ acts) none_left =
    let first = after_act l act in
    let now = one_act l act none_left in
    let later = all_acts first.limiter acts now.none_left in
    let rest = after_acts first.limiter acts in
    record {
      kept =
          let sum : length (first.granted ++ rest.granted) ≡ length first.granted + length rest.granted = length-append first.granted rest.granted in
          omega (arith, now.kept, later.kept, sum, back_in_two act acts);
      none_left = later.none_left;
      in_turn =
          rw (askers_in_two act acts, ← append_assoc l.waiting (askers (act ∷ [])) (askers acts))
          (sublist_in_two first.granted first.limiter.waiting rest.granted rest.limiter.waiting (l.waiting ++ askers (act ∷ [])) (askers acts)
          now.in_turn later.in_turn);
    }

pub limiters_serve : {A : Type 0} (tokens : ℕ) (acts : List (LimiterAct A)) → ServesTokens tokens acts (after_acts (new_limiter tokens) acts)
limiters_serve tokens acts =
    let served = all_acts (new_limiter tokens) acts (inr refl) in
    record { kept = served.kept; none_left = served.none_left; in_turn = served.in_turn }
