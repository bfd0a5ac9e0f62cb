-- The order of the tasks does not matter: any of them may be taken to the front, for its turn.
use Rattle.std.proofs.Common.{◌≡◌, ◌⊎◌, ℕ, suc, ◌≤◌, min, List, [], ◌∷◌, refl, sym, ap, ◌∙◌, subst, inl, inr, arith}
use Rattle.turn_semantics.specs.Lists.{IsAmong}
use Rattle.exceptions.specs.Exceptions.{Label}
use Rattle.job_meaning.specs.Log.{Result, Table}
use Rattle.job_meaning.specs.Before.{upto}
use Rattle.turn_semantics.specs.Midway.{Place, Tables}
use Rattle.interleavings.specs.Interleaving.{Started, made_least, all_least, made_times, all_times, Kid, HasFrom, Parent, Entered, EachPlace, RunInvariant, AllFrom}
use Rattle.interleavings.specs.Runs.{Front, is_front, after_one}

-- the same tasks in another order
pub record SameTasks (qs rs : List Started) : Type 0 where
  pub forth : (q : Started) → IsAmong q qs → IsAmong q rs
  pub back : (q : Started) → IsAmong q rs → IsAmong q qs
  pub same_made : (c : ℕ) (l : Label) → made_least c l rs ≡ made_least c l qs
  pub same_all : (c : ℕ) (l : Label) → all_least c l rs ≡ all_least c l qs
  pub same_made_times : (l : Label) → made_times l rs ≡ made_times l qs
  pub same_all_times : (l : Label) → all_times l rs ≡ all_times l qs

-- a task is taken to the front
pub front_same : (q : Started) (qs others : List Started) → Front q qs others → SameTasks qs (q ∷ others)
unfolding made_least all_least made_times all_times
front_same q _ _ (is_front q' qs') =
    record {
      forth = λ z i. i;
      back = λ z i. i;
      same_made = λ c l. refl;
      same_all = λ c l. refl;
      same_made_times =
          λ l. refl;
      same_all_times = λ l. refl;
    }
front_same q _ _ (after_one q' x qs' others' at) = go (front_same q' qs' others' at)
  where
    go : SameTasks qs' (q' ∷ others') → SameTasks (x ∷ qs') (q' ∷ x ∷ others')
    go p = record {
      forth = there;
      back = here;
      same_made = λ c l. omega (arith, p.same_made c l);
      same_all = λ c l. omega (arith, p.same_all c l);
      same_made_times = λ l. omega (arith, p.same_made_times l);
      same_all_times = λ l. omega (arith, p.same_all_times l);
    }
      where
        there : (z : Started) → IsAmong z (x ∷ qs') → IsAmong z (q' ∷ x ∷ others')
        there z (inl e) = inr (inl e)
        there z (inr j) = after (p.forth z j)
          where
            after : IsAmong z (q' ∷ others') → IsAmong z (q' ∷ x ∷ others')
            after (inl e) = inl e
            after (inr n) = inr (inr n)

        here : (z : Started) → IsAmong z (q' ∷ x ∷ others') → IsAmong z (x ∷ qs')
        here z (inl e) = inr (p.back z (inl e))
        here z (inr (inl e)) = inl e
        here z (inr (inr n)) = inr (p.back z (inr n))

module _ (k : Tables) (f : Table) (whole : Result) (qs rs : List Started) (same : SameTasks qs rs) where
  kid_moved : (q : Started) (i : ℕ) → Kid qs q i → Kid rs q i
  kid_moved q i c = record { kid = c.kid; among = same.forth c.kid c.among; serial = c.serial; later = c.later; same = c.same }

  parent_moved : (q : Started) → (q.final_result ≡ whole) ⊎ Parent qs q → (q.final_result ≡ whole) ⊎ Parent rs q
  parent_moved q (inl e) = inl e
  parent_moved q (inr p) = inr (record {
    starter = p.starter;
    among = same.forth p.starter p.among;
    earlier = p.earlier;
    number =
        p.number;
    started = p.started;
    same = p.same;
  })

  known_moved : (l : Label) (d : _) → HasFrom k.cancelled_from f whole.log qs l d → HasFrom k.cancelled_from f whole.log rs l d
  known_moved l d p = record {
    settled = p.settled;
    kept = λ c. p.kept c
        ∙ ap (λ (n : ℕ). min (upto (suc c) d) (suc n)) (sym (same.same_made c l));
  }

  places_moved : (ps : List Place) → EachPlace (Entered qs) ps → EachPlace (Entered rs) ps
  places_moved [] p = tt
  places_moved (x ∷ ps) p = (
    record { deadline = p.0.deadline; by = p.0.by; among = same.forth p.0.by p.0.among; made = p.0.made },
    places_moved ps p.1,
  )

  -- in another order they still agree with the table
  pub interleaving_moved : RunInvariant k f whole qs → RunInvariant k f whole rs
  interleaving_moved o = record {
    fits = λ q i. o.fits q (same.back q i);
    shape = λ q i. o.shape q (same.back q i);
    numbered = λ q i. o.numbered q (same.back q i);
    kids = λ q i n h. kid_moved q n (o.kids q (same.back q i) n h);
    parents = λ q i. parent_moved q (o.parents q (same.back q i));
    signed = λ c l. o.signed c l ∙ sym (same.same_all c l);
    once = λ l. subst (λ (n : ℕ). n ≤ 1) (sym (same.same_all_times l)) (o.once l);
    made = λ c l h. same.same_made c l ∙ o.made c l (sym (same.same_made_times l) ∙ h);
    follows = λ q i. o.follows q (same.back q i);
    known = λ q i l d h. known_moved l d (o.known q (same.back q i) l d h);
    placed = λ q i. places_moved q.places (o.placed q (same.back q i));
    root = record { root = o.root.root; among = same.forth o.root.root o.root.among; first = o.root.first; comes = o.root.comes };
  }

  -- and nothing that was not made happens earlier
  pub from_moved : (v : ℕ) → AllFrom k qs v → AllFrom k rs v
  from_moved v h q i l = h q (same.back q i) l
