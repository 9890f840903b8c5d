use Rattle.std.proofs.Common.{rules, arith, ◌≡◌, [], ◌∷◌, ◌++◌, Option, Some, None, length, map, take, sym, ap, ◌∙◌}
use Rattle.std.specs.Prelude.{min}
use Rattle.std.proofs.lemmas.List.{length-take, map_more, take_all}
use Rattle.vc_format.specs.Git.{bytes_of_id}
use Rattle.vc_model.specs.Clone.{once}
use Rattle.vc_object.specs.declared.id.ObjectId.{ObjectId}
use Rattle.vc_refs.specs.Head.{head_of, head_value}
use Rattle.vc_refs.specs.RefFault.{BlamesHeadValue}
use Rattle.vc_refs.specs.Refs.{refs}
use Rattle.vc_tracking.specs.Faults.{from_refs}
use Rattle.vc_exchange.specs.Wanting.{BlamesWanting}
use Rattle.vc_exchange.proofs.OnceLemmas.{inserted_once}
use Rattle.vc_exchange.proofs.WantingHaves.{are_haves, heads_blames, no_head, none_taken, value_found, values_told}
use Rattle.vc_exchange.proofs.wanting.haves.Goals.{in-Some+in_ok-insert-2, in_default}
use Rattle.vc_exchange.proofs.wanting.haves.Goals as goal

pub loop-id-init : goal.loop-id-init
loop-id-init g c = ap (map bytes_of_id) c.new-ids.ensures.empty ∙ ap (λ l. once [] (values_told l)) (sym (none_taken c.deref-id-items.result.now))

pub loop-id-preserved : goal.loop-id-preserved
loop-id-preserved g c =
    let items = c.deref-id-items.result.now in
    let i = c.loop-id.id-index in
    let item = c.loop-id-item.result in
    inserted_once (values_told (take i items)) c.loop-id.ids.keys c.insert.new.self.keys item.1 c.in_ok-insert.ensures.keys c.loop-id.invariant
    ∙ ap (once []) (ap (λ (x : ObjectId). values_told (take i items) ++ x.0 ∷ []) (ap (λ t. t.1) c.loop-id-item.is) ∙ sym (map_more (λ t. bytes_of_id t.1) items i item c.loop-id-test.true))

pub returns-in_err-id-clause-refused : goal.returns-in_err-id-clause-refused
returns-in_err-id-clause-refused g c honest =
    let content = g.F.Files.content c.args.files.now in
    let blames : BlamesHeadValue content c.in_err-id.field-0.0 = rw c.in_ok-list.ensures.same at (c.in_err-id.ensures.refused honest) in
    let told : BlamesWanting content (from_refs c.in_err-id.field-0.0) = heads_blames content (c.in_ok-list.ensures.good honest) c.in_err-id.field-0.0 blames in
    search (rules, told)

pub returns-clause-haves : goal.returns-clause-haves
returns-clause-haves g c honest =
    let content = g.F.Files.content c.args.files.now in
    let items = c.in_ok-list.field-0.items in
    let found = c.in_ok-id.field-0 in
    let all : take c.loop-id.id-index c.deref-id-items.result.now ≡ items = take_all c.loop-id.id-index c.deref-id-items.result.now (omega (arith, c.loop-id-test.false)) ∙ c.deref-id-items.ensures.value in
    let so_far : map bytes_of_id c.loop-id.ids.keys ≡ once [] (values_told items) = c.loop-id.invariant ∙ ap (λ l. once [] (values_told l)) all in
    let head : found ≡ head_value (refs content) (head_of content) = rw c.in_ok-list.ensures.same at (c.in_ok-id.ensures.found honest) in
    let whole : map bytes_of_id c.match-branch-4.ids.keys ≡ once [] (values_told items ++ value_found found) = elim c.match-branch-4.branch [
      | in-Some+in_ok-insert-2 w ↦
          let some : found ≡ Some w.in-Some.id = search rules in
          ap (λ s. map bytes_of_id s.keys) w.ids-is ∙ inserted_once (values_told items) c.loop-id.ids.keys w.insert-in-Some.new.self.keys w.in-Some.id w.in_ok-insert-2.ensures.keys so_far
          ∙ ap (λ (o : Option ObjectId). once [] (values_told items ++ value_found o)) (sym some)
      | in_default w ↦
          let none : found ≡ None = search rules in
          ap (λ s. map bytes_of_id s.keys) w.ids-is ∙ no_head items c.loop-id.ids.keys found none so_far
    ] in
    are_haves content items found c.match-branch-4.ids.keys c.in_ok-first.first.items (c.in_ok-list.ensures.listed honest) head whole (c.in_ok-first.ensures.first ∙ ap (take 256) c.as_slice.ensures.keys)

pub returns-clause-few : goal.returns-clause-few
returns-clause-few g c =
    let long : length c.in_ok-first.first.items ≡ min 256 (length c.as_slice.result.now) = ap length c.in_ok-first.ensures.first ∙ length-take 256 c.as_slice.result.now in
    omega (arith, long)

pub returns-clause-ids : goal.returns-clause-ids
returns-clause-ids g c = c.in_ok-first.ensures.ids
