use Rattle.std.proofs.Common.{rules, ◌≡◌, map, reverse, length, ap, ◌∙◌, arith}
use Rattle.vc_object.specs.Entries.{entries_of}
use Rattle.vc_index.specs.HeldFiles.{placed, under}
use Rattle.vc_index.proofs.LoadLemmas.{tree_object_of}
use Rattle.vc_index.proofs.loading.open_folder.Goals as goal

pub returns-clause-opened : goal.returns-clause-opened
returns-clause-opened g c =
    let body = c.in_ok-stored.stored.body.items in
    let at : c.in-Some.tree.body.now ≡ body = search rules in
    let object = tree_object_of c.in_ok-stored.stored.kind body c.in_ok-stored.stored.sound c.in_ok-stored.ensures.kind in
    record {
      body = body;
      more = c.in_ok-more.more.items;
      is = c.in_ok-append.ensures.items;
      entries = c.in_ok-more.ensures.items ∙ ap (λ p. reverse (map (placed (under p)) (entries_of c.in-Some.tree.body.now))) c.deref.ensures.value ∙ ap (λ b. reverse (map (placed (under c.args.item.now.path.items)) (entries_of b))) at;
      few = let f = c.in_ok-more.ensures.few in let s = object.2 in omega (arith, f, s, ap length at);
      tree = object.0;
      spelled = object.1;
      stored = c.in_ok-stored.ensures.found;
    }
