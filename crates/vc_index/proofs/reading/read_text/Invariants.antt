use Rattle.std.proofs.Common.{length, map}
use Rattle.vc_index.specs.Reading.{AreInOrder, index_with}
use Rattle.vc_index.proofs.ReadLemmas.{ReadSoFar}
use Rattle.vc_index.proofs.reading.read_text.Given as goal

abbrev pub invariant-loop-last : goal.invariant-loop-last
invariant-loop-last l = ReadSoFar l.bytes l.rest l.last (map (λ f. f.now) l.fronts.items) (index_with l.files.items) × AreInOrder l.files.items

abbrev pub decreases-loop-last : goal.decreases-loop-last
decreases-loop-last l = length l.rest
