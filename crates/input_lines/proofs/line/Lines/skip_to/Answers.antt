use Rattle.std.proofs.Common.{◌+◌, refl, arith}
use Rattle.input_lines.proofs.SkipLemmas.{skipped-newline, skipped-none}
use Rattle.input_lines.proofs.line.Lines.skip_to.Goals as goal

pub returns-in-Some : goal.returns-in-Some
returns-in-Some c =
    let s = c.args.self.now in
    let skipped = skipped-newline s.buffer.now s.next s.end c.args.place c.in-Some.length (s.next + (c.in-Some.length + 1)) refl c.requires
    s.within c.in-Some.ensures in
    record { passed = skipped.1; later = omega arith; starts = skipped.0; one_line = skipped.2; same_source = refl; same_end = refl }

pub returns-in_default : goal.returns-in_default
returns-in_default c =
    let s = c.args.self.now in
    let skipped = skipped-none s.buffer.now s.next s.end c.args.place c.requires s.within c.in_default.ensures in
    record { passed = skipped.0; later = omega arith; starts = omega arith; one_line = skipped.1; same_source = refl; same_end = refl }
