-- For what a status prints, the whole of which is a front of it, and what a person is told.
use Rattle.std.proofs.Common.{◌≡◌, ℕ, Bool, false, true≢false, List, Option, None, Some, inr, subst}
use Rattle.std.specs.List.{flat_map}
use Rattle.std.specs.Io.KnownBytes.{Appends}
use Rattle.std.specs.Prelude.{codes, is_none}
use Rattle.vc_cli.proofs.PrintLemmas.{front_whole}
use Rattle.vc_cli.specs.Printed.{PrintsFront}
use Rattle.vc_cli.specs.Told.{failure_line, line_behind}
use Rattle.vc_object.specs.declared.id.ObjectId.{ObjectId}
use Rattle.vc_working.specs.Trees.{told_cut}
use Rattle.vc_files.specs.FileMap.{FileMap}
use Rattle.vc_working.specs.StatusLines.{PrintsStatus, TellsStatus, change_lines}

pub status_whole : (content work : FileMap) (own : List ℕ) (old new : Option (List ℕ)) → PrintsStatus content work own old new → PrintsFront (TellsStatus content work own) old new
status_whole content work own old new p = inr (record {
  index = p.index;
  spelled = p.spelled;
  tree = p.tree;
  tree_is = p.tree_is;
  head = p.head;
  head_is = p.head_is;
  changes = p.changes;
  exact = p.exact;
  text = front_whole old new (flat_map (change_lines own) p.changes) p.text;
})

-- what is told where one was begun
pub cut_told : (is_terminal : Bool) (a b : Option (List ℕ)) (found begun : Option ObjectId) → is_none found ≡ false → found ≡ begun
    → Appends a b (line_behind is_terminal (Some (failure_line (codes "a checkout was cut short, and files may be of either tree: the next checkout mends them")))) → Appends a b (told_cut is_terminal begun)
cut_told is_terminal a b None begun some same told = absurd (true≢false some)
cut_told is_terminal a b (Some id) begun some same told = subst (λ (o : Option ObjectId). Appends a b (told_cut is_terminal o)) same told
