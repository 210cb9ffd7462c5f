-- What each measured call answers, and what its slice holds at the end, are fixed.
use mathlib.Core.Path.{sym, ◌∙◌}
use Rattle.claims.proofs.Promise.{OneAnswer, OneEnd}
use Rattle.bench.proofs.bench_count.Reads as bench_count
use Rattle.bench.proofs.bench_patterns.Reads as bench_patterns
use Rattle.bench.proofs.bench_search.Reads as bench_search
use Rattle.bench.proofs.bench_shorts.Reads as bench_shorts
use Rattle.bench.proofs.bench_step.Reads as bench_step
use Rattle.bench.proofs.bench_text.Reads as bench_text
use Rattle.bench.proofs.bench_write.Reads as bench_write

pub bench-count-one-answer : OneAnswer bench_count.Post
bench-count-one-answer κs a r r' s s' p q = p ∙ sym q

pub bench-step-one-answer : OneAnswer bench_step.Post
bench-step-one-answer κs a r r' s s' p q = p ∙ sym q

pub bench-search-one-answer : OneAnswer bench_search.Post
bench-search-one-answer κs a r r' s s' p q = p ∙ sym q

pub bench-text-one-answer : OneAnswer bench_text.Post
bench-text-one-answer κs a r r' s s' p q = p ∙ sym q

pub bench-write-one-answer : OneEnd bench_write.Post (λ κs s. s.1.1.1.0.now)
bench-write-one-answer κs a r r' s s' p q = (p.0 ∙ sym q.0, p.1 ∙ sym q.1)

pub bench-shorts-one-answer : OneEnd bench_shorts.Post (λ κs s. s.1.1.1.1.0.now)
bench-shorts-one-answer κs a r r' s s' p q = (p.0 ∙ sym q.0, p.1 ∙ sym q.1)

pub bench-patterns-one-answer : OneEnd bench_patterns.Post (λ κs s. s.1.1.1.1.0.now)
bench-patterns-one-answer κs a r r' s s' p q = (p.0 ∙ sym q.0, p.1 ∙ sym q.1)
