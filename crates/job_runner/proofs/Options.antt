-- The value of an option, and what is true of it.
use Rattle.std.proofs.Common.{◌≡◌, Option, Some, None, refl}
use Rattle.std.specs.Prelude.{IsSomeAnd}

module _ {T : Type 0} where
  -- an option whose value has a property has such a value
  pub some_is : (o : Option T) (P : T → Type 0) → IsSomeAnd o P → (x : T) × (o ≡ Some x) × P x
  some_is None P h = absurd h
  some_is (Some x) P h = (x, refl, h)

  -- what is true of the value that is there is true of the option's
  pub some_has : (o : Option T) (P : T → Type 0) (x : T) → o ≡ Some x → P x → IsSomeAnd o P
  some_has o P x e p = rw e p

  -- what is true of the option's value is true of the value that is there
  pub some_of : (o : Option T) (P : T → Type 0) (x : T) → o ≡ Some x → IsSomeAnd o P → P x
  some_of o P x e h = rw e at h

  -- what is true of the value of one option is true of another's that has the same value
  pub some_kept : (o new : Option T) (P Q : T → Type 0) → ((x : T) → o ≡ Some x → new ≡ Some x) → ((x : T) → o ≡ Some x → P x → Q x) →
      IsSomeAnd o P → IsSomeAnd new Q
  some_kept None new P Q same more h = absurd h
  some_kept (Some x) new P Q same more h = some_has new Q x (same x refl) (more x refl h)
