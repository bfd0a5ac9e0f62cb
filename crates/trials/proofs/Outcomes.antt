-- The exception of a root task, by how it ended.
use Rattle.std.proofs.Common.{◌≡◌, Option, Some, None, refl}
use Rattle.exceptions.specs.Exceptions.{Exc, cancelled, raised, too_slow, group}
use Rattle.job_meaning.specs.Shown.{well, by_cancellation, with_exception, ending_of}

pub none_of : (o : Option Exc) → well ≡ ending_of o → None ≡ o
none_of None h = refl
none_of (Some cancelled) h = let f : well ≡ by_cancellation = h in absurd (cc)
none_of (Some (raised name task tick)) h = let f : well ≡ with_exception (raised name task tick) = h in absurd (cc)
none_of (Some (too_slow scope tick)) h = let f : well ≡ with_exception (too_slow scope tick) = h in absurd (cc)
none_of (Some (group whose parts)) h = let f : well ≡ with_exception (group whose parts) = h in absurd (cc)

pub cancelled_of : (o : Option Exc) → by_cancellation ≡ ending_of o → Some cancelled ≡ o
cancelled_of None h = let f : by_cancellation ≡ well = h in absurd (cc)
cancelled_of (Some cancelled) h = refl
cancelled_of (Some (raised name task tick)) h = let f : by_cancellation ≡ with_exception (raised name task tick) = h in absurd (cc)
cancelled_of (Some (too_slow scope tick)) h = let f : by_cancellation ≡ with_exception (too_slow scope tick) = h in absurd (cc)
cancelled_of (Some (group whose parts)) h = let f : by_cancellation ≡ with_exception (group whose parts) = h in absurd (cc)

pub raised_of : (e : Exc) (o : Option Exc) → with_exception e ≡ ending_of o → Some e ≡ o
raised_of e None h = let f : with_exception e ≡ well = h in absurd (cc)
raised_of e (Some cancelled) h = let f : with_exception e ≡ by_cancellation = h in absurd (cc)
raised_of e (Some (raised name task tick)) h = let f : with_exception e ≡ with_exception (raised name task tick) = h in cc
raised_of e (Some (too_slow scope tick)) h = let f : with_exception e ≡ with_exception (too_slow scope tick) = h in cc
raised_of e (Some (group whose parts)) h = let f : with_exception e ≡ with_exception (group whose parts) = h in cc
