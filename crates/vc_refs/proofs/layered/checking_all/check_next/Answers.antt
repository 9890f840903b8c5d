use Rattle.std.proofs.Common.{Bool, Err, length, sym, subst}
use Rattle.vc_refs.specs.RefFault.{TellsDevice}
use Rattle.vc_refs.specs.SetAll.{placed, BlamesNext, TellsDeviceOfAll}
use Rattle.vc_refs.specs.declared.changes.SetAllFault.{SetAllFault}
use Rattle.vc_refs.proofs.ChangesLemmas.{placed_blames, placed_device}
use Rattle.vc_refs.proofs.layered.checking_all.check_next.Goals as goal

pub returns-in-Err-clause-refused : goal.returns-in-Err-clause-refused
returns-in-Err-clause-refused g c = λ honest read.
    let content = g.F.Files.content c.args.files.now in
    let earlier = c.args.earlier.now in
    let change = c.args.change.now in
    let e = c.in-Err.fault in
    let told : BlamesNext content earlier change (placed (length earlier) e) = placed_blames content earlier change e (c.in-Err.ensures.refused honest read) in
    subst (λ (f : SetAllFault). BlamesNext content earlier change f) (sym c.placed.ensures) told

pub returns-in-Err-clause-wear : goal.returns-in-Err-clause-wear
returns-in-Err-clause-wear g c =
    let wear = c.in-Err.ensures.wear in
    let from : TellsDeviceOfAll {T = Bool} (Err c.placed.result) → TellsDevice {T = Bool} (Err c.in-Err.fault) = λ told. placed_device (length c.args.earlier.now) c.in-Err.fault (subst (λ (f : SetAllFault). TellsDeviceOfAll {T = Bool} (Err f)) c.placed.ensures told) in
    record {
      later = wear.later;
      calm = wear.calm;
      could = λ told. wear.could (from told);
      failed_now = λ told. wear.failed_now (from told);
      unspent = wear.unspent;
    }
