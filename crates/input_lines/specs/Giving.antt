-- What contracts see of the iterator over the cuts of a part.
use Rattle.std.specs.Prelude.{◌≡◌, ◌+◌, ℕ}
use Rattle.input_lines.specs.Cuts.{cut_of}
use Rattle.input_lines.specs.Part.{buffer_of, range_of}
use Rattle.input_lines.specs.declared.part.Part.{Part}
use Rattle.input_lines.specs.declared.cuts.Cuts.{Cuts}

-- the part that is cut
abbrev pub part_cut : Cuts → Part
part_cut cuts = cuts.part

-- the number of cuts
abbrev pub cut_count : Cuts → ℕ
cut_count cuts = cuts.count

-- how many of them were returned
abbrev pub cuts_given : Cuts → ℕ
cuts_given cuts = cuts.given

-- one call returned the next cut of the part
pub record GivesCut (before : Cuts) (given : Part) (after : Cuts) : Type 0 where
  pub buffer : buffer_of given ≡ buffer_of (part_cut before)
  pub range : range_of given ≡ cut_of (buffer_of (part_cut before)) (range_of (part_cut before)) (cut_count before) (cuts_given before)
  pub same_part : part_cut after ≡ part_cut before
  pub same_count : cut_count after ≡ cut_count before
  pub one_more : cuts_given after ≡ cuts_given before + 1
