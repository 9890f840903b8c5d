use Rattle.std.proofs.Common.{◌≡◌, true, false, drop}
use Rattle.std.specs.List.{list_all}
use Rattle.vc_refs.specs.Packed.{may_be_packed, refs_in, texts}
use Rattle.vc_refs.proofs.PackedLemmas.{behind_refs}
use Rattle.vc_refs.proofs.packed.refs_in.Given as goal

-- what all lines give is what was read and what those that are left give
abbrev pub invariant-loop-line : goal.invariant-loop-line
invariant-loop-line l = record {
  same : refs_in false (texts l.lines) ≡ behind_refs l.refs.items (refs_in l.behind (texts (drop l.line-index l.lines)));
  valid : list_all may_be_packed l.refs.items ≡ true;
}
