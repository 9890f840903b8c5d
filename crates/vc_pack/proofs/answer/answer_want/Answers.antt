use Rattle.std.proofs.Common.{rules, ◌≡◌, ◌∙◌, ap, sym, subst, inl, inr, IfErr, Contains, List, slice_get}
use Rattle.vc_pack.proofs.AnswerLemmas.{first_not_ours, refused_ours, refused_sent, there_from_links, ours_of_those, sent_from, from_sent, first_counted, head_of_first}
use Rattle.vc_pack.proofs.answer.answer_want.Goals.{then-learns+then-read-len+in_ok-learn, else-learns}
use Rattle.vc_pack.specs.AnswerFault.{IsRefusedAnswer, from_graph}
use Rattle.vc_pack.specs.Picked.{IsPicked}
use Rattle.vc_known.specs.Known.{Agrees}
use Rattle.vc_object_map.proofs.WalkLemmas.{ReachedFrom-append_left}
use Rattle.vc_object.specs.ObjectMap.{links_in}
use Rattle.vc_object.specs.declared.id.ObjectId.{ObjectId as Id}
use Rattle.vc_object_map.specs.Store.{objects}
use Rattle.vc_pack.proofs.answer.answer_want.Goals as goal

pub returns-in_err-ours-clause-refused : goal.returns-in_err-ours-clause-refused
returns-in_err-ours-clause-refused g c honest =
    let content = g.F.Files.content c.args.files.now in
    let blames = rw (c.deref.ensures.value, c.in_ok-values.ensures.same) at (c.in_err-ours.ensures.refused honest) in
    let told = refused_ours content c.in_ok-values.values.items (c.in_ok-values.ensures.values honest) c.args.want.now.wants.items c.in_err-ours.field-0.0 blames in
    search (rules, told)

pub returns-in-Some-clause-refused : goal.returns-in-Some-clause-refused
returns-in-Some-clause-refused g c honest =
    let content = g.F.Files.content c.args.files.now in
    let names = rw (c.deref.ensures.value, c.in_ok-values.ensures.same) at c.in_ok-ours.ensures.names in
    let all = ours_of_those content c.in_ok-values.values.items (c.in_ok-values.ensures.values honest) c.args.want.now c.in_ok-ours.ours.items (names honest (c.requires.agrees honest)) in
    let first = rw (c.deref-2.ensures.value, c.deref-3.ensures.value) at c.in-Some.ensures.other in
    first_not_ours content c.in_ok-ours.ours.items c.args.want.now.wants.items (λ id w. all id (inl w)) c.in-Some.id first

pub returns-in_err-objects-clause-refused : goal.returns-in_err-objects-clause-refused
returns-in_err-objects-clause-refused g c honest =
    let content = g.F.Files.content c.args.files.now in
    let wants = c.args.want.now.wants.items in
    let step : IsRefusedAnswer content wants (from_graph c.in_err-objects.field-0.0) → IfErr c.from_residual-in_err-objects.result (IsRefusedAnswer content wants) =
    λ told. search (rules, told, c.from_residual-in_err-objects.ensures) in
    step (
    let ours = c.in_ok-ours.ours.items in
    let haves = c.args.want.now.haves.items in
    let counted = c.in_ok-counted.counted.items in
    let names = rw (c.deref.ensures.value, c.in_ok-values.ensures.same) at c.in_ok-ours.ensures.names in
    let all = ours_of_those content c.in_ok-values.values.items (c.in_ok-values.ensures.values honest) c.args.want.now ours (names honest (c.requires.agrees honest)) in
    let among : (id : Id) → Contains wants id → Contains ours id = rw (c.deref-2.ensures.value, c.deref-3.ensures.value) at c.in_default.ensures.none in
    let picked : IsPicked (Contains ours) haves counted = rw (c.deref-4.ensures.value, c.deref-5.ensures.value) at c.in_ok-counted.ensures in
    let blames = rw (c.deref-6.ensures.value, c.deref-7.ensures.value, c.in_ok-ours.ensures.same, c.in_ok-values.ensures.same) at (c.in_err-objects.ensures.refused honest) in
    refused_sent content ours haves counted (λ x held. all x (inr held)) picked wants (λ id h. (all id (inl h)).0 (among id h)) c.in_err-objects.field-0.0 blames)

pub returns-clause-objects : goal.returns-clause-objects
returns-clause-objects g c honest id o =
    let content = g.F.Files.content c.args.files.now in
    let ours = c.in_ok-ours.ours.items in
    let wants = c.args.want.now.wants.items in
    let haves = c.args.want.now.haves.items in
    let counted = c.in_ok-counted.counted.items in
    let names = rw (c.deref.ensures.value, c.in_ok-values.ensures.same) at c.in_ok-ours.ensures.names in
    let those = ours_of_those content c.in_ok-values.values.items (c.in_ok-values.ensures.values honest) c.args.want.now ours (names honest (c.requires.agrees honest)) in
    let all = λ (x : Id) (h : Contains haves x). those x (inr h) in
    let picked : IsPicked (Contains ours) haves counted = rw (c.deref-4.ensures.value, c.deref-5.ensures.value) at c.in_ok-counted.ensures in
    let sends = rw (c.deref-6.ensures.value, c.deref-7.ensures.value, c.in_ok-ours.ensures.same, c.in_ok-values.ensures.same) at c.in_ok-objects.ensures.sent in
    let sent = sends honest (c.requires.agrees honest) id o in
    (λ h. let r = sent.0 h in (sent_from content ours haves counted all picked wants id r.0, r.1), λ h. sent.1 (from_sent content ours haves counted all picked wants id h.0, h.1))

pub returns-clause-there : goal.returns-clause-there
returns-clause-there g c honest id h =
    let content = g.F.Files.content c.args.files.now in
    let wants = c.args.want.now.wants.items in
    let counted = c.in_ok-counted.counted.items in
    let closes = rw (c.deref-6.ensures.value, c.deref-7.ensures.value, c.in_ok-ours.ensures.same, c.in_ok-values.ensures.same) at c.in_ok-objects.ensures.closed in
    let closed = closes honest (c.requires.agrees honest) in
    there_from_links (objects content) id (closed id (ReachedFrom-append_left (links_in (objects content)) wants counted id h.wanted))

pub returns-clause-ack : goal.returns-clause-ack
returns-clause-ack g c honest =
    let content = g.F.Files.content c.args.files.now in
    let ours = c.in_ok-ours.ours.items in
    let haves = c.args.want.now.haves.items in
    let counted = c.in_ok-counted.counted.items in
    let names = rw (c.deref.ensures.value, c.in_ok-values.ensures.same) at c.in_ok-ours.ensures.names in
    let those = ours_of_those content c.in_ok-values.values.items (c.in_ok-values.ensures.values honest) c.args.want.now ours (names honest (c.requires.agrees honest)) in
    let all = λ (x : Id) (h : Contains haves x). those x (inr h) in
    let picked : IsPicked (Contains ours) haves counted = rw (c.deref-4.ensures.value, c.deref-5.ensures.value) at c.in_ok-counted.ensures in
    let head : c.copied-ack.result ≡ slice_get counted 0 = c.copied-ack.ensures ∙ c.first.ensures.value ∙ ap (λ (l : List Id). slice_get l 0) c.deref-8.ensures.value in
    first_counted content ours haves counted all picked c.copied-ack.result (head_of_first counted c.copied-ack.result head)

pub returns-clause-ours : goal.returns-clause-ours
returns-clause-ours g c honest id h =
    let content = g.F.Files.content c.args.files.now in
    let ours = c.in_ok-ours.ours.items in
    let wants = c.args.want.now.wants.items in
    let names = rw (c.deref.ensures.value, c.in_ok-values.ensures.same) at c.in_ok-ours.ensures.names in
    let those = ours_of_those content c.in_ok-values.values.items (c.in_ok-values.ensures.values honest) c.args.want.now ours (names honest (c.requires.agrees honest)) in
    let among : (x : Id) → Contains wants x → Contains ours x = rw (c.deref-2.ensures.value, c.deref-3.ensures.value) at c.in_default.ensures.none in
    (those id (inl h)).0 (among id h)

pub returns-clause-known : goal.returns-clause-known
returns-clause-known g c honest =
    let content = g.F.Files.content c.args.files.now in
    let agrees = c.requires.agrees honest in
    elim c.if-learns.branch [
      | then-learns+then-read-len+in_ok-learn w ↦
          let learns = rw (c.in_ok-objects.ensures.same, c.in_ok-ours.ensures.same, c.in_ok-values.ensures.same) at w.in_ok-learn.ensures.known in
          let learnt : Agrees (objects content) w.learn.new.known = learns honest agrees in
          subst (λ known. Agrees (objects content) known) (sym w.known-is) learnt
      | else-learns w ↦ subst (λ known. Agrees (objects content) known) (sym w.known-is) agrees
    ]
