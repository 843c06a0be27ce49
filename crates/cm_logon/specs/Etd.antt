-- The estimated time of departure.
use Rattle.atn.specs.Format.{Fmt, num, seq, end, ◌⨾◌}
use Rattle.atn.specs.Tags as tag

abbrev pub etd_date : Fmt
etd_date = seq (num tag.etd_year 1996 2095 ⨾ num tag.etd_month 1 12 ⨾ num tag.etd_day 1 31 ⨾ end)

abbrev pub etd_time : Fmt
etd_time = seq (num tag.etd_hours 0 23 ⨾ num tag.etd_minutes 0 59 ⨾ end)
