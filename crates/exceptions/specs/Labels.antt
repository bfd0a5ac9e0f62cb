-- When two labels are equal.
use Rattle.std.specs.Prelude.{Bool, ◌&&◌}
use Rattle.std.specs.Str.{bytes_eq}
use Rattle.std.specs.Cmp.{IsEquivalence, on_equiv, and_equiv}
use Rattle.std.specs.Cmp.Lexicographic.{nat_list_eq_equiv}
use Rattle.exceptions.specs.Exceptions.{Label}

-- they have the same name and the same indices
abbrev pub same_label : Label → Label → Bool
same_label l m = bytes_eq l.name m.name && bytes_eq l.indices m.indices

-- that is an equivalence
pub same_label_equiv : IsEquivalence same_label
same_label_equiv = and_equiv (on_equiv (λ (l : Label). l.name) nat_list_eq_equiv) (on_equiv (λ (l : Label). l.indices) nat_list_eq_equiv)
