-- Which worker has a router (own): routers are dealt out to workers in turn.
use Rattle.std.specs.Prelude.{ℕ, ◌%◌}

-- the worker, of so many, that has this router
abbrev pub owner : ℕ → ℕ → ℕ
owner workers router = router % workers
