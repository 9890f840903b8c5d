use Rattle.std.proofs.Common.{rules, ◌≡◌, Err, ◌++◌, ◌∷◌, [], true, Contains, drop, subst}
use Rattle.std.specs.Prelude.{⊤}
use Rattle.std.specs.List.{list_any}
use Rattle.vc_object_map.proofs.FaultLemmas.{IsMet-more}
use Rattle.vc_object_map.specs.Graph.{IsClosedUnder}
use Rattle.vc_object_map.specs.StoreFault.{IsMet}
use Rattle.vc_object.specs.ObjectId.{id_eq}
use Rattle.vc_object.specs.ObjectMap.{links_in}
use Rattle.vc_quarantine.proofs.KnownLemmas.{AreAmong, AreAmong-none, AreAmong-push, AreAmong-drop, IsClosedUnder-among}
use Rattle.vc_quarantine.proofs.known.Known.learn_tips.Goals.{then-contains+in_ok-push, else-contains}
use Rattle.vc_quarantine.proofs.known.Known.learn_tips.Goals as goal

pub loop-command-init : goal.loop-command-init
loop-command-init g c = AreAmong-none c.args.self.now.objects.keys c.new-tips.result.items c.new-tips.ensures.items

pub loop-command-preserved : goal.loop-command-preserved
loop-command-preserved g c =
    let keys = c.args.self.now.objects.keys in
    let old = c.command-item.result.old in
    elim c.if-contains.branch [
      | then-contains+in_ok-push w ↦
          let pushed : c.if-contains.tips.items ≡ c.loop-command.tips.items ++ old ∷ [] = search rules in
          let here : list_any (id_eq old) keys ≡ true = search rules in
          AreAmong-push keys c.loop-command.tips.items c.if-contains.tips.items old pushed here c.loop-command.invariant
      | else-contains w ↦ rw w.tips-is c.loop-command.invariant
    ]

pub returns-in_err-learn_links-clause-whole : goal.returns-in_err-learn_links-clause-whole
returns-in_err-learn_links-clause-whole g c honest whole =
    let links = links_in (g.C.Objects.objects (g.C.Objects.state_of c.args.commits.now)) in
    let keys = c.args.self.now.objects.keys in
    let tips : IsClosedUnder links c.deref.result.now = IsClosedUnder-among links keys c.deref.result.now (subst (AreAmong keys) (search rules) c.loop-command.invariant) whole.closed in
    record { closed = c.learn_links.ensures.known honest whole.closed tips; histories = whole.histories }

pub returns-in_err-learn_links-clause-refused : goal.returns-in_err-learn_links-clause-refused
returns-in_err-learn_links-clause-refused g c =
    let e = c.in_err-learn_links.field-0.0 in
    let damaged = g.C.Objects.damaged (g.C.Objects.state_of c.args.commits.now) in
    let told : g.C.Objects.is_honest → IsMet (λ id. ⊤) damaged e = λ honest. IsMet-more (Contains c.deref.result.now) (λ id. ⊤) damaged (λ id h. tt) e (c.in_err-learn_links.ensures.refused honest) in
    let is : c.from_residual-in_err-learn_links.result ≡ Err e = search rules in
    rw is told

pub returns-in_err-linked-clause-whole : goal.returns-in_err-linked-clause-whole
returns-in_err-linked-clause-whole g c honest whole =
    let links = links_in (g.C.Objects.objects (g.C.Objects.state_of c.args.commits.now)) in
    let keys = c.args.self.now.objects.keys in
    let tips : IsClosedUnder links c.deref.result.now = IsClosedUnder-among links keys c.deref.result.now (subst (AreAmong keys) (search rules) c.loop-command.invariant) whole.closed in
    record { closed = c.learn_links.ensures.known honest whole.closed tips; histories = whole.histories }

pub returns-in_err-learn_links-2-clause-whole : goal.returns-in_err-learn_links-2-clause-whole
returns-in_err-learn_links-2-clause-whole g c honest whole =
    let links = links_in (g.C.Objects.objects (g.C.Objects.state_of c.args.commits.now)) in
    let keys = c.args.self.now.objects.keys in
    let later = c.learn_links.new.known.keys in
    let tips : IsClosedUnder links c.deref.result.now = IsClosedUnder-among links keys c.deref.result.now (subst (AreAmong keys) (search rules) c.loop-command.invariant) whole.closed in
    let closed : IsClosedUnder links later = c.learn_links.ensures.known honest whole.closed tips in
    let linked : c.deref-2.result.now ≡ drop c.len-place.result later = search rules in
    let more = IsClosedUnder-among links later c.deref-2.result.now (AreAmong-drop later c.deref-2.result.now c.len-place.result linked) closed in
    let known = rw c.learn_links.ensures.kept at (c.learn_links-2.ensures.known honest) in
    record { closed = known closed more; histories = whole.histories }

pub returns-clause-whole : goal.returns-clause-whole
returns-clause-whole g c honest whole =
    let links = links_in (g.C.Objects.objects (g.C.Objects.state_of c.args.commits.now)) in
    let keys = c.args.self.now.objects.keys in
    let later = c.learn_links.new.known.keys in
    let tips : IsClosedUnder links c.deref.result.now = IsClosedUnder-among links keys c.deref.result.now (subst (AreAmong keys) (search rules) c.loop-command.invariant) whole.closed in
    let closed : IsClosedUnder links later = c.learn_links.ensures.known honest whole.closed tips in
    let linked : c.deref-2.result.now ≡ drop c.len-place.result later = search rules in
    let more = IsClosedUnder-among links later c.deref-2.result.now (AreAmong-drop later c.deref-2.result.now c.len-place.result linked) closed in
    let known = rw c.learn_links.ensures.kept at (c.learn_links-2.ensures.known honest) in
    record { closed = known closed more; histories = whole.histories }
