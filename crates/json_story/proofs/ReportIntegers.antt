-- All numbers of a report are integers.
use Rattle.std.proofs.Common.{◌≡◌, refl}
use Rattle.std.specs.Prelude.{false}
use Rattle.serde_json.specs.Data.{Data}
use Rattle.serde_json.specs.View.{items_of}
use Rattle.serde_json.specs.Written.{has_float, items_have_float}
use Rattle.exceptions.specs.Exceptions.{Whose, by_nursery, by_handler, Exc, cancelled, raised, too_slow, group, Excs, no_parts, part}
use Rattle.job_meaning.specs.Shown.{Shown, line_shown, scope_shown, nursery_shown, wait_shown, grant_shown, Ending, well, by_cancellation, with_exception}
use Rattle.json_story.specs.Values.{whose_json, exc_json, parts_json, entry_json, exception_json}

whose_without_float : (whose : Whose) → has_float (whose_json whose) ≡ false
whose_without_float (by_nursery label) = refl
whose_without_float by_handler = refl

mutual
  pub exc_without_float : (e : Exc) → has_float (exc_json e) ≡ false
  exc_without_float cancelled = refl
  exc_without_float (raised name task tick) = refl
  exc_without_float (too_slow scope tick) = refl
  exc_without_float (group whose parts) = rw (whose_without_float whose, parts_without_float parts) refl

  parts_without_float : (es : Excs) → items_have_float (items_of (parts_json es)) ≡ false
  parts_without_float no_parts = refl
  parts_without_float (part e es) = rw (exc_without_float e, parts_without_float es) refl

entry_without_float : (s : Shown) → has_float (entry_json s) ≡ false
entry_without_float (line_shown at text) = refl
entry_without_float (scope_shown label tick caught) = refl
entry_without_float (nursery_shown label tick caught) = refl
entry_without_float (wait_shown label tick) = refl
entry_without_float (grant_shown ask label tick) = refl

exception_without_float : (e : Ending) → has_float (exception_json e) ≡ false
exception_without_float well = refl
exception_without_float by_cancellation = refl
exception_without_float (with_exception e) = exc_without_float e

-- the values of an entry and of an exception have no float
pub entry_has_no_float : (value : Data) (s : Shown) → value ≡ entry_json s → has_float value ≡ false
entry_has_no_float value s is = rw (is, entry_without_float s) refl

pub exception_has_no_float : (value : Data) (e : Ending) → value ≡ exception_json e → has_float value ≡ false
exception_has_no_float value e is = rw (is, exception_without_float e) refl
