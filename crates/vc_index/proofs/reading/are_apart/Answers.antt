use Rattle.std.proofs.Common.{rules, ◌≡◌, ℕ, List, [], ◌∷◌, ◌++◌, map, refl, sym, ap, ◌∙◌, subst}
use Rattle.std.specs.BTreeMap.{IsOrdered}
use Rattle.std.specs.Cmp.Lexicographic.{slice_cmp}
use Rattle.std.specs.Ordering.{nat_cmp}
use Rattle.std.specs.declared.cmp.Ordering.TheVariants.{Less}
use Rattle.std.proofs.lemmas.List.{map-append}
use Rattle.vc_index.specs.IndexMap.{HasFileAbove}
use Rattle.vc_index.specs.Reading.{IsFront, IsReadTo, index_with}
use Rattle.vc_index.proofs.ApartLemmas.{ApartSoFar, apart_file, apart_less, apart_more, apart_not, apart_start}
use Rattle.vc_index.proofs.MapLemmas.{key_cmp}
use Rattle.vc_index.proofs.reading.are_apart.Goals as goal

pub loop-path-init : goal.loop-path-init
loop-path-init c = apart_start c.args.map.now c.into_iter-path-iterator.result (map (λ f. f.now) c.new-fronts.result.items) (search rules) (ap (map (λ f. f.now)) c.new-fronts.ensures.items)

pub returns-then-lies_in_file : goal.returns-then-lies_in_file
returns-then-lies_in_file c =
    let ordered : IsOrdered key_cmp c.args.map.now = search rules in
    let is : c.loop-path.path-iterator ≡ (c.in-Some.path.now, c.in-Some.field-0-1.now) ∷ c.next.new.self = search rules in
    let so_far = c.loop-path.invariant in
    let m = index_with so_far.done in
    let fronts = map (λ f. f.now) c.loop-path.fronts.items in
    let path : c.deref-in-loop-path.result.now ≡ c.in-Some.path.now.items = search rules in
    let file = apart_file c.args.map.now ordered c.loop-path.path-iterator c.next.new.self c.loop-path.last.now fronts so_far c.in-Some.path.now c.in-Some.field-0-1.now is c.requires in
    let less = apart_less c.args.map.now ordered c.loop-path.path-iterator c.next.new.self c.loop-path.last.now fronts so_far c.in-Some.path.now c.in-Some.field-0-1.now is file in
    let to : IsReadTo m c.loop-path.last.now (map (λ f. f.now) c.deref.result.now) = subst (λ l. IsReadTo m c.loop-path.last.now (map (λ f. f.now) l)) (sym c.deref.ensures.value) so_far.to in
    let told = c.if-lies_in_file.ensures m to (subst (λ p. slice_cmp nat_cmp c.loop-path.last.now p ≡ Less) (sym path) less) in
    let above : HasFileAbove m c.in-Some.path.now.items = subst (HasFileAbove m) path (told.0 refl) in (
      λ no_way. absurd (cc no_way),
      λ sound. absurd (apart_not c.args.map.now ordered c.loop-path.path-iterator c.next.new.self c.loop-path.last.now fronts so_far c.in-Some.path.now c.in-Some.field-0-1.now is above sound),
    )

pub loop-path-preserved : goal.loop-path-preserved
loop-path-preserved c =
    let ordered : IsOrdered key_cmp c.args.map.now = search rules in
    let is : c.loop-path.path-iterator ≡ (c.in-Some.path.now, c.in-Some.field-0-1.now) ∷ c.next.new.self = search rules in
    let so_far = c.loop-path.invariant in
    let m = index_with so_far.done in
    let fronts = map (λ f. f.now) c.loop-path.fronts.items in
    let path : c.deref-in-loop-path.result.now ≡ c.in-Some.path.now.items = search rules in
    let kept_path : c.deref-in-loop-path-2.result.now ≡ c.in-Some.path.now.items = search rules in
    let file = apart_file c.args.map.now ordered c.loop-path.path-iterator c.next.new.self c.loop-path.last.now fronts so_far c.in-Some.path.now c.in-Some.field-0-1.now is c.requires in
    let less = apart_less c.args.map.now ordered c.loop-path.path-iterator c.next.new.self c.loop-path.last.now fronts so_far c.in-Some.path.now c.in-Some.field-0-1.now is file in
    let to : IsReadTo m c.loop-path.last.now (map (λ f. f.now) c.deref.result.now) = subst (λ l. IsReadTo m c.loop-path.last.now (map (λ f. f.now) l)) (sym c.deref.ensures.value) so_far.to in
    let told = c.if-lies_in_file.ensures m to (subst (λ p. slice_cmp nat_cmp c.loop-path.last.now p ≡ Less) (sym path) less) in
    let kept = map (λ f. f.now) c.keep_fronts.new.fronts.items in
    let pushed : c.deref-in-loop-path-3.result.now ≡ c.in-Some.path.now.items = search rules in
    let end : c.deref-last.result.now ≡ c.in-Some.path.now.items = search rules in
    let new : map (λ f. f.now) c.push.new.self.items ≡ kept ++ c.in-Some.path.now.items ∷ [] =
    ap (map (λ f. f.now)) c.in_ok-push.ensures.items ∙ map-append (λ f. f.now) c.keep_fronts.new.fronts.items (c.deref-in-loop-path-3.result ∷ []) ∙ ap (λ (p : List ℕ). kept ++ p ∷ []) pushed in
    let more = apart_more c.args.map.now ordered c.loop-path.path-iterator c.next.new.self c.loop-path.last.now fronts so_far c.in-Some.path.now c.in-Some.field-0-1.now is file
    (λ above. let z = told.1 (subst (HasFileAbove m) (sym path) above) in absurd (cc z)) kept (map (λ f. f.now) c.push.new.self.items)
    (c.keep_fronts.ensures.some, λ front begins. c.keep_fronts.ensures.all front (subst (IsFront front) (sym kept_path) begins)) new in
    subst (λ p. ApartSoFar c.args.map.now c.next.new.self p (map (λ f. f.now) c.push.new.self.items)) (sym end) more
