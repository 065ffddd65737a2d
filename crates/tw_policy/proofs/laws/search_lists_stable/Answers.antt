use Rattle.tw_policy.proofs.Search as search
use Rattle.tw_policy.proofs.laws.search_lists_stable.Goals as goal

pub returns-clause-stable : goal.returns-clause-stable
returns-clause-stable c = λ net states n xs h k here. search.stable_at net states n xs h k here

pub returns-clause-all : goal.returns-clause-all
returns-clause-all c = λ net states n xs h ribs stable. search.listed_at net states n xs h ribs stable

pub returns-clause-once : goal.returns-clause-once
returns-clause-once c = λ net states once n xs h j k before here. search.once_at net states n xs once h j k before here
