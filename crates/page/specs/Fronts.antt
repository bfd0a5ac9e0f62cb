-- The front of a text: the bytes of one kind with which it begins.
use Rattle.std.specs.Prelude.{ℕ, suc, Bool, ◌&&◌, not, ◌==◌, nat_le, if◌then◌else◌, List, [], ◌∷◌, take, drop}
use Rattle.page.specs.declared.front.ByteKind.{ByteKind}
use Rattle.page.specs.declared.front.ByteKind.TheVariants.{Blank, Digit, Dark, NameByte}

abbrev pub is_of : ByteKind → ℕ → Bool
is_of Blank b = b == 32
is_of Digit b = nat_le 48 b && nat_le b 57
is_of Dark b = not (b == 32)
is_of NameByte b = not (b == 32) && not (b == 46) && not (b == 58) && not (b == 59) && not (b == 44) && not (b == 91) && not (b == 40) && not (b == 41)

-- how many bytes of this kind the text begins with
abbrev pub front_length : ByteKind → List ℕ → ℕ
front_length kind [] = 0
front_length kind (b ∷ bs) = if is_of kind b then suc (front_length kind bs) else 0

abbrev pub front : ByteKind → List ℕ → List ℕ
front kind bytes = take (front_length kind bytes) bytes

abbrev pub after_front : ByteKind → List ℕ → List ℕ
after_front kind bytes = drop (front_length kind bytes) bytes
