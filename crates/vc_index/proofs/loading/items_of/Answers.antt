use Rattle.std.proofs.Common.{rules, ◌≡◌, [], ◌++◌, map, reverse, sym, ap, ◌∙◌, append-nil}
use Rattle.vc_object.specs.Entries.{entries_of}
use Rattle.vc_object.specs.EntryView.{entries_left}
use Rattle.vc_index.specs.HeldFiles.{placed}
use Rattle.vc_index.specs.Loading.{item_pair}
use Rattle.vc_index.proofs.LoadLemmas.{map_reverse}
use Rattle.vc_index.proofs.loading.items_of.Goals as goal

pub returns-clause-items : goal.returns-clause-items
returns-clause-items c =
    let body = c.args.tree.body.now in
    let items = c.loop-entry.items.items in
    let folder = c.in_ok-folder.folder.items in
    let none : entries_left c.loop-entry.entry-iterator ≡ [] = search rules in
    let all : map item_pair items ≡ map (placed folder) (entries_of body) =
    sym (append-nil (map item_pair items)) ∙ ap (λ es. map item_pair items ++ map (placed folder) es) (sym none) ∙ c.loop-entry.invariant.items in
    ap (map item_pair) c.reverse.ensures.items ∙ map_reverse item_pair items ∙ ap reverse (all ∙ ap (λ f. map (placed f) (entries_of body)) c.in_ok-folder.ensures)
