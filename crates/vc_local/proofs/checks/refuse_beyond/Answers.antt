use Rattle.std.proofs.Common.{◌≡◌, [], ◌∷◌, sym, ap, ◌∙◌, None, refl, rules, subst}
use Rattle.vc_history.proofs.GenerationLemmas.{agrees_where_none}
use Rattle.vc_history.specs.HistoryFault.{IsTold}
use Rattle.vc_files.specs.FileMap.{FileMap}
use Rattle.vc_object_map.specs.Graph.{IsClosedUnder, ReachedFrom}
use Rattle.vc_object_map.specs.StoreFault.{IsMet}
use Rattle.vc_store.specs.StoreState.{StoreState}
use Rattle.vc_object.specs.ObjectMap.{links_in, parents_in}
use Rattle.vc_quarantine.specs.Known.{AreWhole}
use Rattle.vc_object_map.specs.Store.{objects, IsDamaged}
use Rattle.vc_local.specs.GoodCommit.{IsComplete, BlamesCommitBeyond}
use Rattle.vc_local.specs.NodeFault.{of_history}
use Rattle.vc_local.specs.Reads.{NoneRead, TellsRead, IsReached}
use Rattle.vc_local.specs.declared.fault.NodeFault.TheVariants.{Store}
use Rattle.vc_local.proofs.CommitLemmas.{told_commit}
use Rattle.vc_local.proofs.ReadLemmas.{parent_read, told_read}
use Rattle.vc_local.proofs.checks.refuse_beyond.Goals as goal

pub returns-in_err-is_history_beyond-clause-known : goal.returns-in_err-is_history_beyond-clause-known
returns-in_err-is_history_beyond-clause-known g c = λ honest whole.
    let content = g.F.Files.content in
    let known = c.args.known.now in
    let first : content c.new-store.result.files.now ≡ content c.args.files.now = ap content c.new-store.ensures.files in
    let same : content c.is_complete_beyond.new.objects.files.now ≡ content c.args.files.now = ap (λ (s : StoreState). s.content) c.is_complete_beyond.ensures.kept ∙ first in
    record {
      closed = subst (λ (m : FileMap). IsClosedUnder (links_in (objects m)) c.is_complete_beyond.new.known.keys) first (c.is_complete_beyond.ensures.known honest (subst (λ (m : FileMap). IsClosedUnder (links_in (objects m)) known.objects.keys) (sym first) whole.closed));
      histories = subst (λ (m : FileMap). IsClosedUnder (parents_in (objects m)) c.is_history_beyond.new.known.keys) same (c.is_history_beyond.ensures.known honest (subst (λ (m : FileMap). IsClosedUnder (parents_in (objects m)) known.histories.keys) (sym same) whole.histories));
    }

pub returns-in_err-is_history_beyond-clause-file : goal.returns-in_err-is_history_beyond-clause-file
returns-in_err-is_history_beyond-clause-file g c = λ honest.
    let content = g.F.Files.content in
    let id = c.args.id.now in
    let e = c.in_err-is_history_beyond.field-0.0 in
    let same : content c.is_complete_beyond.new.objects.files.now ≡ content c.args.files.now = ap (λ (s : StoreState). s.content) c.is_complete_beyond.ensures.kept ∙ ap content c.new-store.ensures.files in
    let met = subst (λ (m : FileMap). IsMet (ReachedFrom (parents_in (objects m)) (id ∷ [])) (IsDamaged m) e) same (c.in_err-is_history_beyond.ensures.refused honest) in
    let read : TellsRead (IsReached (content c.args.files.now) id) NoneRead (Store e) = parent_read (content c.args.files.now) id e met in
    search (rules, read)

pub returns-in_err-read_history-clause-refused : goal.returns-in_err-read_history-clause-refused
returns-in_err-read_history-clause-refused g c = λ honest.
    let content = g.F.Files.content in
    let id = c.args.id.now in
    let known = c.args.known.now in
    let e = c.in_err-read_history.field-0.0 in
    let first : content c.new-store.result.files.now ≡ content c.args.files.now = ap content c.new-store.ensures.files in
    let second : content c.is_complete_beyond.new.objects.files.now ≡ content c.args.files.now = ap (λ (s : StoreState). s.content) c.is_complete_beyond.ensures.kept ∙ first in
    let same : content c.is_history_beyond.new.commits.files.now ≡ content c.args.files.now = ap (λ (s : StoreState). s.content) c.is_history_beyond.ensures.kept ∙ second in
    let told = subst (λ (m : FileMap). IsTold (objects m) (IsDamaged m) (id ∷ []) e) same (c.in_err-read_history.ensures.refused honest (agrees_where_none _ (λ x. None) (λ x. refl))) in
    let complete : AreWhole (objects (content c.args.files.now)) known → IsComplete (content c.args.files.now) id = λ whole.
    subst (λ (m : FileMap). IsComplete m id) first
    ((c.in_ok-is_complete_beyond.ensures.complete honest (subst (λ (m : FileMap). IsClosedUnder (links_in (objects m)) known.objects.keys) (sym first) whole.closed)).0 (search rules)) in
    let blames : BlamesCommitBeyond (AreWhole (objects (content c.args.files.now)) known) (content c.args.files.now) id (of_history e) = told_commit (AreWhole (objects (content c.args.files.now)) known) (content c.args.files.now) id e complete told in
    search (rules, blames)

pub returns-in_err-read_history-clause-known : goal.returns-in_err-read_history-clause-known
returns-in_err-read_history-clause-known g c = λ honest whole.
    let content = g.F.Files.content in
    let known = c.args.known.now in
    let first : content c.new-store.result.files.now ≡ content c.args.files.now = ap content c.new-store.ensures.files in
    let same : content c.is_complete_beyond.new.objects.files.now ≡ content c.args.files.now = ap (λ (s : StoreState). s.content) c.is_complete_beyond.ensures.kept ∙ first in
    record {
      closed = subst (λ (m : FileMap). IsClosedUnder (links_in (objects m)) c.is_complete_beyond.new.known.keys) first (c.is_complete_beyond.ensures.known honest (subst (λ (m : FileMap). IsClosedUnder (links_in (objects m)) known.objects.keys) (sym first) whole.closed));
      histories = subst (λ (m : FileMap). IsClosedUnder (parents_in (objects m)) c.is_history_beyond.new.known.keys) same (c.is_history_beyond.ensures.known honest (subst (λ (m : FileMap). IsClosedUnder (parents_in (objects m)) known.histories.keys) (sym same) whole.histories));
    }

pub returns-in_err-read_history-clause-file : goal.returns-in_err-read_history-clause-file
returns-in_err-read_history-clause-file g c = λ honest.
    let content = g.F.Files.content in
    let id = c.args.id.now in
    let e = c.in_err-read_history.field-0.0 in
    let first : content c.new-store.result.files.now ≡ content c.args.files.now = ap content c.new-store.ensures.files in
    let second : content c.is_complete_beyond.new.objects.files.now ≡ content c.args.files.now = ap (λ (s : StoreState). s.content) c.is_complete_beyond.ensures.kept ∙ first in
    let same : content c.is_history_beyond.new.commits.files.now ≡ content c.args.files.now = ap (λ (s : StoreState). s.content) c.is_history_beyond.ensures.kept ∙ second in
    let told = subst (λ (m : FileMap). IsTold (objects m) (IsDamaged m) (id ∷ []) e) same (c.in_err-read_history.ensures.refused honest (agrees_where_none _ (λ x. None) (λ x. refl))) in
    let read : TellsRead (IsReached (content c.args.files.now) id) NoneRead (of_history e) = told_read (content c.args.files.now) id e told in
    search (rules, read)

pub returns-clause-known : goal.returns-clause-known
returns-clause-known g c = λ honest whole.
    let content = g.F.Files.content in
    let known = c.args.known.now in
    let first : content c.new-store.result.files.now ≡ content c.args.files.now = ap content c.new-store.ensures.files in
    let same : content c.is_complete_beyond.new.objects.files.now ≡ content c.args.files.now = ap (λ (s : StoreState). s.content) c.is_complete_beyond.ensures.kept ∙ first in
    record {
      closed = subst (λ (m : FileMap). IsClosedUnder (links_in (objects m)) c.is_complete_beyond.new.known.keys) first (c.is_complete_beyond.ensures.known honest (subst (λ (m : FileMap). IsClosedUnder (links_in (objects m)) known.objects.keys) (sym first) whole.closed));
      histories = subst (λ (m : FileMap). IsClosedUnder (parents_in (objects m)) c.is_history_beyond.new.known.keys) same (c.is_history_beyond.ensures.known honest (subst (λ (m : FileMap). IsClosedUnder (parents_in (objects m)) known.histories.keys) (sym same) whole.histories));
    }
