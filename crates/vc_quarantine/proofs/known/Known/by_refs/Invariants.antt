use Rattle.std.proofs.Common.{◌≡◌, false}
use Rattle.std.specs.Prelude.{⊤}
use Rattle.vc_refs.specs.Refs.{refs}
use Rattle.vc_push_rules.specs.Verdict.{is_tag}
use Rattle.vc_quarantine.proofs.KnownLemmas.{AreValues}
use Rattle.vc_quarantine.proofs.known.Known.by_refs.Given as goal

abbrev pub invariant-loop-name : goal.invariant-loop-name
invariant-loop-name g l = record {
  objects : g.F.Files.honest → AreValues (refs (g.F.Files.content l.fn.files)) (λ name. ⊤) l.known.objects.keys;
  histories : g.F.Files.honest → AreValues (refs (g.F.Files.content l.fn.files)) (λ name. is_tag name ≡ false) l.known.histories.keys;
}
