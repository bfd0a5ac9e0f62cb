-- An encoding of the parts of a group as lists of marks, with which a contract can compare two groups.
use Rattle.std.specs.Prelude.{◌≡◌, ℕ, zero, suc, List, [], ◌∷◌, refl}
use Rattle.std.specs.Coded.{Coded, code_by, coded×, coded_ℕ, coded_list}
use Rattle.std.proofs.Common.{ap, ◌∙◌}
use Rattle.exceptions.specs.Exceptions.{Label, Whose, by_nursery, by_handler, Exc, cancelled, raised, too_slow, group, Excs, no_parts, part}

-- a label is stored as the pair of its fields
abbrev pub label_code : Coded Label
label_code =
    code_by (List ℕ × List ℕ) (coded× (coded_list coded_ℕ) (coded_list coded_ℕ))
    (λ l. (l.name, l.indices)) (λ p. record { name = p.0; indices = p.1 }) (λ _. refl)

-- A mark: the kind of an exception, a name, a label and a tick.
pub record Mark : Type 0 where
  pub kind : ℕ
  pub name : List ℕ
  pub label : Label
  pub tick : ℕ

abbrev pub mark_code : Coded Mark
mark_code =
    code_by ((ℕ × List ℕ) × (Label × ℕ)) (coded× (coded× coded_ℕ (coded_list coded_ℕ)) (coded× label_code coded_ℕ))
    (λ m. ((m.kind, m.name), (m.label, m.tick))) (λ p. record { kind = p.0.0; name = p.0.1; label = p.1.0; tick = p.1.1 }) (λ _. refl)

abbrev no_label : Label
no_label = record { name = []; indices = [] }

abbrev mark_of : ℕ → List ℕ → Label → ℕ → Mark
mark_of kind name label tick = record { kind = kind; name = name; label = label; tick = tick }

abbrev whose_mark : Whose → Mark
whose_mark (by_nursery label) = mark_of 4 [] label 0
whose_mark by_handler = mark_of 5 [] no_label 0

-- the parts of a group as marks, each in front of the marks of its own parts
abbrev mutual
  marks_of : Excs → List Mark → List Mark
  marks_of no_parts rest = mark_of 0 [] no_label 0 ∷ rest
  marks_of (part e es) rest = marks_in e (marks_of es rest)

  marks_in : Exc → List Mark → List Mark
  marks_in cancelled rest = mark_of 1 [] no_label 0 ∷ rest
  marks_in (raised name task tick) rest = mark_of 2 name task tick ∷ rest
  marks_in (too_slow scope tick) rest = mark_of 3 [] scope tick ∷ rest
  marks_in (group whose parts) rest = whose_mark whose ∷ marks_of parts rest

-- an exception in front of the first parts that were read back
abbrev put : Exc → List Excs → List Excs
put e [] = []
put e (es ∷ others) = part e es ∷ others

abbrev put_group : Whose → List Excs → List Excs
put_group whose [] = []
put_group whose (es ∷ others) = put (group whose es) others

abbrev read_kind : ℕ → Mark → List Excs → List Excs
read_kind zero m b = no_parts ∷ b
read_kind (suc zero) m b = put cancelled b
read_kind (suc (suc zero)) m b = put (raised m.name m.label m.tick) b
read_kind (suc (suc (suc zero))) m b = put (too_slow m.label m.tick) b
read_kind (suc (suc (suc (suc zero)))) m b = put_group (by_nursery m.label) b
read_kind (suc (suc (suc (suc (suc k))))) m b = put_group by_handler b

abbrev read_marks : List Mark → List Excs
read_marks [] = []
read_marks (m ∷ ms) = read_kind m.kind m (read_marks ms)

read_whose : (w : Whose) (ms : List Mark) → read_marks (whose_mark w ∷ ms) ≡ put_group w (read_marks ms)
read_whose (by_nursery label) ms = refl
read_whose by_handler ms = refl

-- parts that were written as marks are read back unchanged
mutual
  pub read_parts : (es : Excs) (rest : List Mark) → read_marks (marks_of es rest) ≡ es ∷ read_marks rest
  read_parts no_parts rest = refl
  read_parts (part e es) rest = read_exc e (marks_of es rest) ∙ ap (put e) (read_parts es rest)

  pub read_exc : (e : Exc) (rest : List Mark) → read_marks (marks_in e rest) ≡ put e (read_marks rest)
  read_exc cancelled rest = refl
  read_exc (raised name task tick) rest = refl
  read_exc (too_slow scope tick) rest = refl
  read_exc (group whose parts) rest = read_whose whose (marks_of parts rest) ∙ ap (put_group whose) (read_parts parts rest)

abbrev first_parts : List Excs → Excs
first_parts [] = no_parts
first_parts (es ∷ others) = es

-- the encoding of the parts of a group
abbrev pub excs_code : Coded Excs
excs_code =
    code_by (List Mark) (coded_list mark_code) (λ es. marks_of es []) (λ ms. first_parts (read_marks ms))
    (λ es. ap first_parts (read_parts es []))
