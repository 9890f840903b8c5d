use Rattle.vc_message.proofs.keeping.keep_message.Given as goal

-- where the source stands
abbrev pub ghosts-keep_at : goal.ghosts-keep_at
ghosts-keep_at g a = record { front = g.R.Source.remaining a.source; failed = g.R.Source.failed a.source; can_fail = g.R.Source.can_fail a.source }
