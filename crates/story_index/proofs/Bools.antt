-- Tests and their joins.
use Rattle.std.proofs.Common.{◌≡◌, refl}
use Rattle.std.specs.Prelude.{Bool, true, false, not, ◌&&◌, ◌||◌, if◌then◌else◌}

-- a test fails with a second that fails
pub and_false : (x : Bool) → (x && false) ≡ false
and_false true = refl
and_false false = refl

-- nothing more
pub or_nothing : (a c : Bool) → a ≡ (a || (c && false))
or_nothing true c = refl
or_nothing false true = refl
or_nothing false false = refl

pub or_false : (a : Bool) → a ≡ (a || false)
or_false true = refl
or_false false = refl

-- one of two holds
pub or_left : (a b : Bool) → a ≡ true → (a || b) ≡ true
or_left true b h = refl
or_left false b h = let clash : false ≡ true = h in cc

pub or_right : (a b : Bool) → b ≡ true → (a || b) ≡ true
or_right true b h = refl
or_right false b h = h

-- a join in another order
pub or_order : (a b x : Bool) → ((a || b) || x) ≡ (a || (b || x))
or_order true b x = refl
or_order false b x = refl

-- a test that implies another may be joined with it
pub and_shown : (c t : Bool) → (c ≡ true → t ≡ true) → (c && t) ≡ c
and_shown true t f = f refl
and_shown false t f = refl

-- what follows from either of two follows from their join
pub some_of : (x y r t : Bool) → (y ≡ true → t ≡ true) → (r ≡ true → t ≡ true) → ((x && y) || r) ≡ true → t ≡ true
some_of true true r t f g h = f refl
some_of true false r t f g h = g h
some_of false y r t f g h = g h

-- a test of each of a first and of others, joined in the other order
pub swapped : (a b c x y : Bool) → (((a || b) && c) || (x || y)) ≡ (((if a then c else false) || x) || ((b && c) || y))
swapped true true true x y = refl
swapped true true false x y = refl
swapped true false true x y = refl
swapped true false false x y = refl
swapped false true true true y = refl
swapped false true true false y = refl
swapped false true false x y = refl
swapped false false c x y = refl

-- one more is taken out of each
pub without : (x y n r : Bool) → ((x && (y && n)) || (r && n)) ≡ (((x && y) || r) && n)
without true true true true = refl
without true true true false = refl
without true true false true = refl
without true true false false = refl
without true false n r = refl
without false y n r = refl

-- what is already in the set does not have to be added
pub or_new : (h x : Bool) → (h || (x && not h)) ≡ (h || x)
or_new true x = refl
or_new false true = refl
or_new false false = refl

-- one more event, of the task that is asked for
pub same_task : (a c s : Bool) → (((c && not (a || (c && s))) && true) || (a || (c && s))) ≡ (a || (c && true))
same_task true true s = refl
same_task true false s = refl
same_task false true true = refl
same_task false true false = refl
same_task false false s = refl

-- and of another
pub other_task : (x r : Bool) → ((x && false) || r) ≡ r
other_task true r = refl
other_task false r = refl
