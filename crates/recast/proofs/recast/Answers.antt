-- `recast::recast` meets its contract: each number has its variant's arm.
use Rattle.recast.specs.Recasts.{recast}
use Rattle.recast.proofs.Ends.{number_ends}
use Rattle.recast.proofs.recast.Goals as goal

pub returns-in-0 : goal.returns-in-0
unfolding recast
returns-in-0 c = search number_ends

pub returns-in-1 : goal.returns-in-1
unfolding recast
returns-in-1 c = search number_ends

pub returns-in-2 : goal.returns-in-2
unfolding recast
returns-in-2 c = search number_ends

pub returns-in-3 : goal.returns-in-3
unfolding recast
returns-in-3 c = search number_ends

pub returns-in-4 : goal.returns-in-4
unfolding recast
returns-in-4 c = search number_ends

pub returns-in-5 : goal.returns-in-5
unfolding recast
returns-in-5 c = search number_ends

pub returns-in-6 : goal.returns-in-6
unfolding recast
returns-in-6 c = search number_ends

pub returns-in-7 : goal.returns-in-7
unfolding recast
returns-in-7 c = search number_ends

pub returns-in-8 : goal.returns-in-8
unfolding recast
returns-in-8 c = search number_ends

pub returns-in-9 : goal.returns-in-9
unfolding recast
returns-in-9 c = search number_ends
