-- Names and strings of a job, as bytes kept in an array of fixed length and followed by zeros.
use Rattle.std.specs.Prelude.{◌≡◌, ℕ, ◌-◌, ◌≤◌, ◌++◌, List, [], ◌∷◌, Bool, false, ◌&&◌, ◌||◌, ◌==◌, nat_le, length, take, replicate, IsTrue}
use Rattle.std.specs.List.{list_all}
use Rattle.std.proofs.Common.{arith, refl}
use Rattle.std.proofs.lemmas.List.{length-take-le}

-- `A` to `Z` and `a` to `z`
abbrev pub is_letter : ℕ → Bool
is_letter b = (nat_le 65 b && nat_le b 90) || (nat_le 97 b && nat_le b 122)

-- `0` to `9`
abbrev pub is_digit : ℕ → Bool
is_digit b = nat_le 48 b && nat_le b 57

-- a byte that may follow the first byte of a word: a letter, a digit or `_`
abbrev pub is_word_byte : ℕ → Bool
is_word_byte b = (is_letter b || is_digit b) || (b == 95)

abbrev pub starts_word : List ℕ → Bool
starts_word [] = false
starts_word (b ∷ bs) = is_letter b

-- a word: a letter, then letters, digits and `_`, at most 32 bytes
abbrev pub is_word : List ℕ → Bool
is_word bytes = (starts_word bytes && list_all is_word_byte bytes) && nat_le (length bytes) 32

-- a string: 1 to 64 bytes
abbrev pub is_text : List ℕ → Bool
is_text bytes = nat_le 1 (length bytes) && nat_le (length bytes) 64

-- bytes followed by zeros, `room` bytes in all
abbrev pub in_room : ℕ → List ℕ → List ℕ
in_room room bytes = bytes ++ replicate (room - length bytes) 0

-- the first `len` bytes of an array pass a test, and the rest are zeros
pub record IsKept (room : ℕ) (test : List ℕ → Bool) (bytes : List ℕ) (len : ℕ) : Type 0 where
  pub room_is : length bytes ≡ room
  pub within : len ≤ room
  pub zeros : bytes ≡ in_room room (take len bytes)
  pub passes : IsTrue (test (take len bytes))

-- An array that keeps bytes in this way is determined by those bytes.
pub kept_again : {R : Type 0} (make : List ℕ → ℕ → R) (room : ℕ) (test : List ℕ → Bool) (bytes : List ℕ) (len : ℕ) →
    IsKept room test bytes len → make (in_room room (take len bytes)) (length (take len bytes)) ≡ make bytes len
kept_again make room test bytes len kept =
    let n : length (take len bytes) ≡ len = length-take-le len bytes (omega (arith, kept.room_is, kept.within)) in
    rw (← kept.zeros, n) refl
