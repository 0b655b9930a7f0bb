mod RunsOn
