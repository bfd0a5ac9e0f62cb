-- The parts of a group one by one.
use Rattle.std.proofs.Common.{◌≡◌, ℕ, zero, suc, ◌+◌, ◌<◌, List, [], ◌∷◌, ◌++◌, length, take, append_assoc, append-nil, arith}
use Rattle.std.specs.Prelude.{slice_index_or, codes}
use Rattle.exceptions.specs.declared.exc.Exc.{Exc}
use Rattle.exceptions.specs.Held.{exc_of, excs_of}
use Rattle.exceptions.specs.Texts.{exc_text, more_text}

-- a further part follows a comma and a space
pub more_text-take : (es : List Exc) (i : ℕ) (d : Exc) → i < length es →
    more_text (excs_of (take (i + 1) es)) ≡ more_text (excs_of (take i es)) ++ (codes ", " ++ exc_text (exc_of (slice_index_or es i d)))
more_text-take [] i d h = absurd (omega arith)
more_text-take (e ∷ es) zero d h = simp append-nil
more_text-take (e ∷ es) (suc i) d h =
    let step : suc i + 1 ≡ suc (i + 1) = omega arith in
    let before = more_text-take es i d (omega arith) in
    rw step (simp (before, append_assoc))
