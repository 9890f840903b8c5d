use Rattle.std.proofs.Common.{◌∷◌, [], ap, ◌∙◌, map, rules}
use Rattle.std.proofs.lemmas.List.{map-append}
use Rattle.vc_history.proofs.NumberingLemmas.{Keeps-one_more, WaitsFor-one_more}
use Rattle.vc_history.specs.Numbering.{places}
use Rattle.vc_history.proofs.numbering.wait_for.Goals as goal

pub returns-in_ok-push-clause-waits : goal.returns-in_ok-push-clause-waits
returns-in_ok-push-clause-waits c =
    let list = c.index_mut.result.now in
    let longer = c.push.new.self in
    WaitsFor-one_more places c.args.waiting.now.items c.in-Some.place list longer c.args.look.place (search rules) c.index_mut.ensures.value
    (ap (map (λ l. l.place)) c.in_ok-push.ensures.items ∙ map-append (λ l. l.place) list.items (c.args.look ∷ []))
    c.args.met.now.keys c.args.name.now (search rules)

pub returns-in_ok-push-clause-kept : goal.returns-in_ok-push-clause-kept
returns-in_ok-push-clause-kept c =
    let list = c.index_mut.result.now in
    let longer = c.push.new.self in
    Keeps-one_more places c.args.waiting.now.items c.in-Some.place list longer c.args.look.place (search rules) c.index_mut.ensures.value
    (ap (map (λ l. l.place)) c.in_ok-push.ensures.items ∙ map-append (λ l. l.place) list.items (c.args.look ∷ []))
