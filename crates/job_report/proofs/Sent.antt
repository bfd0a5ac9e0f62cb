-- Bytes that were sent in pieces.
use Rattle.std.proofs.Common.{◌≡◌, ℕ, ◌+◌, List, ◌++◌, take, drop, ap, sym, ◌∙◌, append_assoc}
use Rattle.std.proofs.Math.Seq.{take-add}
use Rattle.std.specs.Prelude.{Option, Some, None}
use Rattle.std.specs.Io.KnownBytes.{Appends}

-- a piece, and a further one
pub sent_more : (was mid new : Option (List ℕ)) (bytes rest : List ℕ) (i n : ℕ) → Appends was mid (take i bytes) →
    Appends mid new (take n rest) → rest ≡ drop i bytes → Appends was new (take (i + n) bytes)
sent_more None mid new bytes rest i n before put after = tt
sent_more (Some held) None new bytes rest i n before put after = absurd before
sent_more (Some held) (Some xs) None bytes rest i n before put after = put
sent_more (Some held) (Some xs) (Some ys) bytes rest i n before put after =
    put ∙ ap (λ zs. xs ++ take n zs) after ∙ ap (λ zs. zs ++ take n (drop i bytes)) before
    ∙ append_assoc held (take i bytes) (take n (drop i bytes))
    ∙ ap (λ zs. held ++ zs) (sym (take-add i n bytes))
