use Rattle.std.proofs.Common.{[], refl, subst}
use Rattle.trio_text.specs.Uses.{Known, known_of}
use Rattle.trio_text.specs.declared.uses.Uses.{Uses}
use Rattle.trio_text.specs.Program.{WritesRoot}
use Rattle.trio_text.proofs.writing.program.Goals as goal

pub returns : goal.returns
returns c =
    let job = c.args.job.now in
    let functions = c.in_ok-functions.functions.items in
    let P : Known → Type 0 = λ known. WritesRoot known c.job_uses-uses.result.start job [] functions in
    let Q : Uses → Type 0 = λ uses. WritesRoot (known_of job) uses.start job [] functions in
    record {
      functions = functions;
      tasks = subst Q c.job_uses-uses.ensures (subst P c.in_ok-words.ensures.known c.in_ok-functions.ensures);
      parts = rw (
        c.in_ok-text.ensures,
        c.as_slice.ensures.value,
        c.in_ok-words.ensures.known,
        c.in_ok-words.ensures.raised,
        c.job_uses-uses.ensures,
      ) refl;
    }
