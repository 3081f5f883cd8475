-- What a desk holds, by its parts.
use Rattle.std.specs.Prelude.{ℕ}
use Rattle.req_tree.specs.Facts.{Facts}
use Rattle.policy_model.specs.Tables.{Tables}
use Rattle.object_model.specs.Plain.{Plain}
use Rattle.object_cache.specs.declared.objects.Objects.{Objects}
use Rattle.object_cache.specs.Objects.{live_at, counts, rings}

-- tables, facts, a moment, and what is kept of assessments, as plain data
abbrev pub plain_of : Tables → Facts → ℕ → Objects → Plain
plain_of tables facts now objects = record { tables = tables; facts = facts; now = now; entries = live_at now objects; counts = counts objects; rings = rings objects }
