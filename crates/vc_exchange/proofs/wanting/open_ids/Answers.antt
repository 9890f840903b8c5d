use Rattle.std.proofs.Common.{rules, ◌≡◌, List, take, refl, sym, ◌∙◌, subst, arith}
use Rattle.std.proofs.lemmas.List.{take_all}
use Rattle.vc_files.specs.FileMap.{FileMap}
use Rattle.vc_object.specs.declared.id.ObjectId.{ObjectId}
use Rattle.vc_object_map.specs.Graph.{IsClosedUnder}
use Rattle.vc_object.specs.ObjectMap.{links_in}
use Rattle.vc_object_map.specs.Store.{objects}
use Rattle.vc_tracking.specs.Moving.{Told, told_in}
use Rattle.vc_exchange.specs.Wanting.{AddsOpen, AreOpenTold}
use Rattle.vc_tracking.proofs.MovingLoops.{front_more, told_of}
use Rattle.vc_exchange.proofs.WantingOpen.{more_open, none_open}
use Rattle.vc_exchange.proofs.wanting.open_ids.Goals as goal

pub loop-id-init : goal.loop-id-init
loop-id-init g c = record {
  wanted = λ honest closed r p. none_open r c.new-wanted.result.keys c.new-wanted.ensures.empty;
  known = λ honest closed. closed;
  same = refl;
  wear = search rules;
}

pub loop-id-preserved : goal.loop-id-preserved
loop-id-preserved g c =
    let content = g.F.Files.content in
    let before = c.loop-id.invariant in
    let told = c.args.told.now in
    let i = c.loop-id.id-index in
    let item = c.loop-id-item.result in
    let there : IsClosedUnder (links_in (objects (content c.args.files.now))) c.loop-id.known.keys → IsClosedUnder (links_in (objects (content c.loop-id.files))) c.loop-id.known.keys =
    λ closed. subst (λ (m : FileMap). IsClosedUnder (links_in (objects m)) c.loop-id.known.keys) (sym before.same) closed in
    record {
      wanted = λ honest closed r p.
          let adds : AddsOpen (objects (content c.args.files.now)) c.loop-id.wanted.keys c.add_open.new.wanted.keys item.1 =
          subst (λ (m : FileMap). AddsOpen (objects m) c.loop-id.wanted.keys c.add_open.new.wanted.keys item.1) before.same (c.in_ok-add_open.ensures.added honest (there (before.known honest closed))) in
          subst (λ (l : List Told). AreOpenTold r l c.add_open.new.wanted.keys) (front_more told i item c.loop-id-test.true c.loop-id-item.is)
          (more_open (content c.args.files.now) r p (told_in (take i told)) (told_of item) c.loop-id.wanted.keys c.add_open.new.wanted.keys adds (before.wanted honest closed r p));
      known = λ honest closed. subst (λ (m : FileMap). IsClosedUnder (links_in (objects m)) c.add_open.new.known.keys) before.same (c.in_ok-add_open.ensures.known honest (there (before.known honest closed)));
      same = c.in_ok-add_open.ensures.same ∙ before.same;
      wear = search rules;
    }

pub returns-clause-wanted : goal.returns-clause-wanted
returns-clause-wanted g c = λ honest closed r p.
    let told = c.args.told.now in
    let whole : take c.loop-id.id-index told ≡ told = take_all c.loop-id.id-index told (omega (arith, c.loop-id-test.false)) in
    let same : c.in_ok-ids.ids.items ≡ c.loop-id.wanted.keys = search rules in
    subst (λ (l : List ObjectId). AreOpenTold r (told_in told) l) (sym same)
    (subst (λ l. AreOpenTold r (told_in l) c.loop-id.wanted.keys) whole (c.loop-id.invariant.wanted honest closed r p))
