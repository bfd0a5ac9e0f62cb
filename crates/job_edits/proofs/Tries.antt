-- The search for a word that no token is, one try at a time.
use Rattle.std.proofs.Common.{◌≡◌, refl, arith, ℕ, zero, suc, ◌+◌, ◌-◌, ◌<◌, true, false, List}
use Rattle.job_tokens.specs.declared.token.Token.{Token}
use Rattle.job_edits.specs.Fresh.{occurs, numbered_word, fresh_from}

-- A try that ends at a word that no token is.
pub ends : (tries n : ℕ) (word name : List ℕ) (ts : List Token) → 0 < tries → name ≡ numbered_word word n → occurs name ts ≡ false →
    fresh_from tries n word ts ≡ name
ends zero n word name ts some same none = let e : ⊥ = omega (arith, some) in absurd e
ends (suc t) n word name ts some same none = let e : occurs (numbered_word word n) ts ≡ false = rw (← same) none in rw e (rw same refl)

-- After a word that some token is, the next number is tried.
pub goes_on : (tries n : ℕ) (word name : List ℕ) (ts : List Token) → 0 < tries → name ≡ numbered_word word n → occurs name ts ≡ true →
    fresh_from (tries - 1) (n + 1) word ts ≡ fresh_from tries n word ts
goes_on zero n word name ts some same found = let e : ⊥ = omega (arith, some) in absurd e
goes_on (suc t) n word name ts some same found =
    let e : occurs (numbered_word word n) ts ≡ true = rw (← same) found in let p : suc t - 1 ≡ t = omega arith in rw (e, p) refl
