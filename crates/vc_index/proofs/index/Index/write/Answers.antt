use Rattle.std.proofs.Common.{◌++◌, sym, ap, ◌∙◌, ℕ, List}
use Rattle.std.specs.List.{flat_map}
use Rattle.std.proofs.lemmas.List.Folds.{flat_map-map}
use Rattle.vc_index.specs.IndexText.{entry_text, index_text}
use Rattle.vc_index.specs.declared.entry.IndexEntry.{IndexEntry}
use Rattle.vc_index.proofs.MapLemmas.{entries-index_of}
use Rattle.vc_index.proofs.index.Index.write.Goals as goal

pub loop-path-init : goal.loop-path-init
loop-path-init c =
    ap (λ t. t ++ flat_map (λ e. entry_text e.0.items e.1) c.into_iter-path-iterator.result) c.new-text.ensures.items
    ∙ ap (flat_map (λ e. entry_text e.0.items e.1)) (c.into_iter-path-iterator.ensures.into_iter_gives.0)
    ∙ sym (flat_map-map (λ (e : List ℕ × IndexEntry). entry_text e.0 e.1) (λ e. (e.0.items, e.1)) c.self.inside.map.entries)
    ∙ ap (flat_map (λ (e : List ℕ × IndexEntry). entry_text e.0 e.1)) (sym (entries-index_of c.self.inside.map c.into_iter-path-iterator.ensures.into_iter_gives.5))
    ∙ ap index_text c.self.view_is
