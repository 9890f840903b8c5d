use Rattle.std.proofs.Common.{◌≡◌, take}
use Rattle.vc_files.specs.Failures.{Wears}
use Rattle.vc_rev_set.specs.Selection.{AreCommon, ArePairsWalked}
use Rattle.vc_rev_set.proofs.selected.common_of_pairs.Given as goal

abbrev pub invariant-loop-pair : goal.invariant-loop-pair
invariant-loop-pair g l =
    let objects = g.R.Objects.objects (g.R.Objects.state_of l.initial.repo) in record {
      kept : g.R.Objects.state_of l.repo ≡ g.R.Objects.state_of l.initial.repo;
      wear : Wears g.R.Objects.failed g.R.Objects.can_fail g.R.Objects.left l.initial.repo l.repo ⊥;
      common : g.R.Objects.is_honest → AreCommon objects (take l.pair-index l.pairs) l.found.items;
      walked : g.R.Objects.is_honest → ArePairsWalked objects (take l.pair-index l.pairs);
    }
