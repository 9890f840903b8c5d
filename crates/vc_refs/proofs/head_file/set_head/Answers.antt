use Rattle.std.proofs.Common.{rules, ◌≡◌}
use Rattle.std.specs.Prelude.{codes, string_bytes}
use Rattle.std.specs.FinMap as files
use Rattle.vc_refs.proofs.RefsLemmas.{only_put}
use Rattle.vc_refs.proofs.HeadLemmas.{head_of-put}
use Rattle.vc_refs.proofs.LayeredLemmas.{refs-kept_head}
use Rattle.vc_refs.proofs.head_file.set_head.Goals as goal

pub returns-clause-sets : goal.returns-clause-sets
returns-clause-sets g c =
    let content = g.F.Files.content in
    let old = content c.args.files.now in
    let text = string_bytes c.in_ok-text.text in
    let made : g.F.Files.honest → content c.put.new.self ≡ files.insert old (codes "HEAD") text = λ honest. search (rules, c.in_ok-put.ensures.ok honest) in
    record {
      set = λ honest. rw (made honest) (head_of-put old text c.args.head.now c.in_ok-text.ensures.read_back);
      refs = λ honest. rw (made honest) (refs-kept_head _ _ (only_put old (codes "HEAD") text));
      only = λ honest. rw (made honest) (only_put old (codes "HEAD") text);
      err = search rules;
    }
