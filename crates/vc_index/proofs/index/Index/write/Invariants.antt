use Rattle.std.proofs.Common.{◌≡◌, ◌++◌}
use Rattle.std.specs.List.{flat_map}
use Rattle.vc_index.specs.IndexText.{entry_text, index_text}
use Rattle.vc_index.proofs.index.Index.write.Given as goal

-- the text so far and that of what is left are the whole text
abbrev pub invariant-loop-path : goal.invariant-loop-path
invariant-loop-path l = l.text.items ++ flat_map (λ e. entry_text e.0.items e.1) l.path-iterator ≡ index_text l.self
