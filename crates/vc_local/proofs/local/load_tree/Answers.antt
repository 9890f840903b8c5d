use Rattle.vc_local.proofs.LookLemmas.{looks_told}
use Rattle.vc_files.proofs.WearLemmas.{wears_then, wears_writes, writes_told}
use Rattle.std.proofs.Common.{rules, refl, inr, inl}
use Rattle.vc_local.proofs.ShownLemmas.{shown_index_from}
use Rattle.vc_local.proofs.CleanLemmas.{clean_from, clean_index}
use Rattle.vc_local.proofs.local.load_tree.Goals as goal

pub returns-clause-loaded : goal.returns-clause-loaded
returns-clause-loaded g c = λ honest. record {
  index = c.in_ok-index.index;
  files = c.in_ok-index.ensures.files honest;
  blobs = c.in_ok-index.ensures.blobs honest;
  reads = c.in_ok-index.ensures.reading honest;
  sound = c.in_ok-write_index.ensures.index;
  is = shown_index_from _ _ _ _ _ c.in_ok-index.ensures.same (c.in_ok-write_index.ensures.written honest) refl;
}

pub returns-clause-kept : goal.returns-clause-kept
returns-clause-kept g c = λ honest. record { err = tt; clean = clean_from _ _ _ c.in_ok-index.ensures.same (clean_index _ _ _ (c.in_ok-write_index.ensures.written honest)) }

pub returns-in_err-index-clause-wear : goal.returns-in_err-index-clause-wear
returns-in_err-index-clause-wear g c = writes_told (wears_writes c.in_err-index.ensures.wear (search rules)) (search rules) (search rules)

pub returns-clause-wear : goal.returns-clause-wear
returns-clause-wear g c = wears_then c.in_ok-index.ensures.wear (search rules) (search rules) (writes_told c.in_ok-write_index.ensures.wear (search rules) (search rules))

pub returns-in_err-index-clause-looks : goal.returns-in_err-index-clause-looks
returns-in_err-index-clause-looks g c = λ honest. inr (looks_told c.in_err-index.ensures.wear (search rules))

pub returns-in_err-write_index-clause-looks : goal.returns-in_err-write_index-clause-looks
returns-in_err-write_index-clause-looks g c = λ honest. inl (c.in_ok-index.index, c.in_ok-index.ensures.reading honest)

pub returns-clause-looks : goal.returns-clause-looks
returns-clause-looks g c = λ honest. inl (c.in_ok-index.index, c.in_ok-index.ensures.reading honest)
