-- An encoding of the ends of a nursery's children, with which a contract can compare two lists of them.
use Rattle.std.specs.Prelude.{List, refl}
use Rattle.std.specs.Coded.{Coded, code_by, coded_list, coded_option}
use Rattle.exceptions.specs.Exceptions.{Exc, Excs, cancelled, no_parts, part}
use Rattle.exceptions.specs.ExcCode.{excs_code}
use Rattle.nursery_book.specs.Nursery.{End}

-- the first of the parts
abbrev first_of : Excs → Exc
first_of no_parts = cancelled
first_of (part exc parts) = exc

abbrev pub ends_code : Coded (List End)
ends_code = coded_list (coded_option (coded_option (code_by Excs excs_code (λ exc. part exc no_parts) first_of (λ exc. refl))))
