-- Bytes that are appended one after the other.
use Rattle.std.proofs.Common.{◌≡◌, ℕ, List, ◌++◌, ap, ◌∙◌, append_assoc}
use Rattle.std.specs.Prelude.{Result, OnOk}
use Rattle.std.proofs.lemmas.Result.{on_ok_weaker}

-- Two parts after `a`.
two : (a x y b c : List ℕ) → b ≡ a ++ x → c ≡ b ++ y → c ≡ a ++ (x ++ y)
two a x y b c p q = q ∙ ap (λ u. u ++ y) p ∙ append_assoc a x y

-- Three parts after `a`.
three : (a x y z b c d : List ℕ) → b ≡ a ++ x → c ≡ b ++ y → d ≡ c ++ z → d ≡ a ++ (x ++ y ++ z)
three a x y z b c d p q r = two a (x ++ y) z c d (two a x y b c p q) r

-- An element whose content has two parts.
pub two_inside : {T E : Type 0} (result : Result T E) (old start x y stop a b c new : List ℕ) →
    a ≡ old ++ start → b ≡ a ++ x → c ≡ b ++ y → OnOk result (new ≡ c ++ stop) → OnOk result (new ≡ old ++ (start ++ (x ++ y) ++ stop))
two_inside result old start x y stop a b c new p q r last =
    on_ok_weaker result (λ s. three old start (x ++ y) stop a c new p (two a x y b c q r) s) last

-- An element whose content has three parts.
pub three_inside : {T E : Type 0} (result : Result T E) (old start x y z stop a b c d new : List ℕ) →
    a ≡ old ++ start → b ≡ a ++ x → c ≡ b ++ y → d ≡ c ++ z → OnOk result (new ≡ d ++ stop) →
    OnOk result (new ≡ old ++ (start ++ (x ++ y ++ z) ++ stop))
three_inside result old start x y z stop a b c d new p q r s last =
    on_ok_weaker result (λ t. three old start (x ++ y ++ z) stop a d new p (three a x y z b c d q r s) t) last
